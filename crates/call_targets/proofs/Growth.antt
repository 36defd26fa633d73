-- How marks grow, and what waits with them.
use Rattle.std.proofs.Common.{◌≡◌, ℕ, zero, suc, ◌<◌, ◌≤◌, ◌⊎◌, inl, inr, Bool, true, false, List, [], ◌∷◌, ◌++◌, length, refl, sym, ap, subst, ◌∙◌, arith, Some, None}
use Rattle.std.specs.Prelude.{slice_index_or, slice_set, Contains}
use Rattle.std.proofs.lemmas.List.Elements.{Contains-push, Contains-push_cases, Contains-append_left}
use Rattle.call_targets.specs.declared.marks.Marks.{Marks}
use Rattle.call_targets.specs.Marks.{Keeps, Pops}
use Rattle.call_targets.proofs.Contained.{none_in}

pub set_cases : (l : List Bool) (x c : ℕ) → slice_index_or (slice_set l x true) c false ≡ true → (c ≡ x) ⊎ (slice_index_or l c false ≡ true)
set_cases [] x c e = inr e
set_cases (b ∷ bs) zero zero e = inl refl
set_cases (b ∷ bs) zero (suc c) e = inr e
set_cases (b ∷ bs) (suc x) zero e = inr e
set_cases (b ∷ bs) (suc x) (suc c) e = elim (set_cases bs x c e) [ inl s ↦ inl (ap suc s) | inr f ↦ inr f ]

pub set_keeps : (l : List Bool) (x c : ℕ) (d : Bool) → slice_index_or l c d ≡ true → slice_index_or (slice_set l x true) c d ≡ true
set_keeps [] x c d e = e
set_keeps (b ∷ bs) zero zero d e = refl
set_keeps (b ∷ bs) zero (suc c) d e = e
set_keeps (b ∷ bs) (suc x) zero d e = e
set_keeps (b ∷ bs) (suc x) (suc c) d e = set_keeps bs x c d e

pub set_reached : (l : List Bool) (x : ℕ) → slice_index_or (slice_set l x true) x true ≡ true
set_reached [] x = refl
set_reached (b ∷ bs) zero = refl
set_reached (b ∷ bs) (suc x) = set_reached bs x

-- what is marked, or past the table, is reached
pub reached_so : (l : List Bool) (x : ℕ) (d : Bool) → x < length l → slice_index_or l x d ≡ true → slice_index_or l x true ≡ true
reached_so [] x d lt e = absurd (omega (arith, lt))
reached_so (b ∷ bs) zero d lt e = e
reached_so (b ∷ bs) (suc x) d lt e = reached_so bs x d (omega (arith, lt)) e

pub reached_past : (l : List Bool) (x : ℕ) → length l ≤ x → slice_index_or l x true ≡ true
reached_past [] x le = refl
reached_past (b ∷ bs) zero le = absurd (omega (arith, le))
reached_past (b ∷ bs) (suc x) le = reached_past bs x (omega (arith, le))

-- a mark that is set, where its number waits from then on
pub keeps_set : (m m' : Marks) (x : ℕ) → m'.marks.items ≡ slice_set m.marks.items x true → m'.waiting.items ≡ m.waiting.items ++ x ∷ [] → Keeps m m'
keeps_set m m' x e w = record {
  marked = λ n h. ap (λ l. slice_index_or l n false) e ∙ set_keeps m.marks.items x n false h;
  reached = λ n h. ap (λ l. slice_index_or l n true) e ∙ set_keeps m.marks.items x n true h;
  new = λ n h. elim (set_cases m.marks.items x n (sym (ap (λ l. slice_index_or l n false) e) ∙ h)) [
    | inl s ↦ inr (subst (λ l. Contains l n) (sym w) (subst (Contains (m.waiting.items ++ x ∷ [])) (sym s) (Contains-push m.waiting.items x)))
    | inr f ↦ inl f
  ];
  waits = λ n h. subst (λ l. Contains l n) (sym w) (Contains-append_left m.waiting.items (x ∷ []) n h);
}

pub keeps_same : (m : Marks) → Keeps m m
keeps_same m = record { marked = λ n h. h; reached = λ n h. h; new = λ n h. inl h; waits = λ n h. h }

pub keeps_then : (a b c : Marks) → Keeps a b → Keeps b c → Keeps a c
keeps_then a b c f g = record {
  marked = λ n h. g.marked n (f.marked n h);
  reached = λ n h. g.reached n (f.reached n h);
  new = λ n h. elim (g.new n h) [ inl e ↦ elim (f.new n e) [ inl d ↦ inl d | inr w ↦ inr (g.waits n w) ] | inr w ↦ inr w ];
  waits = λ n h. g.waits n (f.waits n h);
}

pub pop_some : (m m' : Marks) (k : ℕ) → Pops m m' (Some k) → (n : ℕ) → Contains m.waiting.items n → (n ≡ k) ⊎ Contains m'.waiting.items n
pop_some m m' k e n c = elim (Contains-push_cases m'.waiting.items k n (subst (λ l. Contains l n) e.taken c)) [ inl d ↦ inr d | inr s ↦ inl (sym s) ]

pub pop_none : (m m' : Marks) → Pops m m' None → (n : ℕ) → Contains m.waiting.items n → ⊥
pop_none m m' e n c = none_in n (subst (λ l. Contains l n) e.taken c)
