-- Places marked one after the other.
use Rattle.std.proofs.Common.{◌≡◌, ◌⊎◌, inl, inr, ℕ, zero, suc, ◌+◌, ◌<◌, ◌≤◌, Bool, true, List, [], ◌∷◌, ◌++◌, length, take, refl, sym, ap, ◌∙◌, subst, arith}
use Rattle.std.specs.Prelude.{slice_index, Contains}
use Rattle.std.proofs.Math.ListN.{set}
use Rattle.std.proofs.lemmas.Bool.{cases_lt, cases_eq}
use Rattle.std.proofs.lemmas.List.{length-set, take_more, take_all}
use Rattle.std.proofs.lemmas.List.Elements.{Contains-append_left}
use Rattle.walk_marks.specs.Walks.{is_on, row_of}
use Rattle.body_graph.proofs.Members.{none}
use Rattle.compact.specs.Clashes.{Meets}
use Rattle.compact.specs.Placed.{Sets, Bars, BarsRun}
use Rattle.compact.specs.declared.clash.Clash.{Clash}
use Rattle.compact.proofs.Naming.{at_end, in_more}

pub sets_none : (some : ℕ → Type 0) (m : List Bool) → ((x : ℕ) → some x → x < length m → ⊥) → Sets some m m
sets_none some m h = record { long = refl; kept = λ x e. e; more = λ x e. inl e; on = λ x s lt. absurd (h x s lt) }

-- first one, then another
pub sets_join : (some other all : ℕ → Type 0) (a b c : List Bool) → Sets some a b → Sets other b c → ((x : ℕ) → some x → all x) → ((x : ℕ) → other x → all x) → ((x : ℕ) → all x → some x ⊎ other x) → Sets all a c
sets_join some other all a b c s t f g h = record {
  long = t.long ∙ s.long;
  kept = λ x e. t.kept x (s.kept x e);
  more = λ x e. elim (t.more x e) [ inl i ↦ elim (s.more x i) [ inl j ↦ inl j | inr j ↦ inr (f x j) ] | inr i ↦ inr (g x i) ];
  on = λ x e lt. elim (h x e) [ inl i ↦ t.kept x (s.on x i lt) | inr i ↦ t.on x i (omega (arith, lt, s.long)) ];
}

pub sets_as : (some all : ℕ → Type 0) (a b : List Bool) → ((x : ℕ) → some x → all x) → ((x : ℕ) → all x → some x) → Sets some a b → Sets all a b
sets_as some all a b f g s = record { long = s.long; kept = s.kept; more = λ x e. elim (s.more x e) [ inl i ↦ inl i | inr i ↦ inr (f x i) ]; on = λ x e lt. s.on x (g x e) lt }

set_on : (m : List Bool) (p : ℕ) → p < length m → is_on (set m p true) p ≡ true
set_on [] p lt = absurd (omega (arith, lt))
set_on (b ∷ m) zero lt = refl
set_on (b ∷ m) (suc p) lt = set_on m p (omega (arith, lt))

set_other : (m : List Bool) (p x : ℕ) → (x ≡ p → ⊥) → is_on (set m p true) x ≡ is_on m x
set_other [] p x ne = refl
set_other (b ∷ m) zero zero ne = absurd (ne refl)
set_other (b ∷ m) zero (suc x) ne = refl
set_other (b ∷ m) (suc p) zero ne = refl
set_other (b ∷ m) (suc p) (suc x) ne = set_other m p x (λ e. ne (ap suc e))

pub sets_one : (some : ℕ → Type 0) (m : List Bool) (p : ℕ) → p < length m → some p → ((x : ℕ) → some x → x ≡ p) → Sets some m (set m p true)
sets_one some m p lt s only = record {
  long = length-set m p true;
  kept = λ x e. elim (cases_eq x p) [ inl i ↦ subst (λ k. is_on (set m p true) k ≡ true) (sym i) (set_on m p lt) | inr ne ↦ set_other m p x ne ∙ e ];
  more = λ x e. elim (cases_eq x p) [ inl i ↦ inr (subst some (sym i) s) | inr ne ↦ inl (sym (set_other m p x ne) ∙ e) ];
  on = λ x e l. subst (λ k. is_on (set m p true) k ≡ true) (sym (only x e)) (set_on m p lt);
}

-- ---- rows

-- a register bars the number that is so many above the place
abbrev BarsOne : List ℕ → ℕ → ℕ → ℕ → Type 0
BarsOne numbers q step x = (q < length numbers) × (slice_index numbers q ≡ x + step)

pub bars_none : (numbers : List ℕ) (step : ℕ) (m : List Bool) → Sets (Bars numbers [] step) m m
bars_none numbers step m = sets_none (Bars numbers [] step) m (λ x s lt. none s.0 s.1)

pub bars_more : (numbers met : List ℕ) (i q step : ℕ) (a b c : List Bool) → i < length met → q ≡ slice_index met i → Sets (Bars numbers (take i met) step) a b → Sets (BarsOne numbers q step) b c → Sets (Bars numbers (take (i + 1) met) step) a c
bars_more numbers met i q step a b c lt is s t =
    subst (λ (l : List ℕ). Sets (Bars numbers l step) a c) (sym (take_more met i 0 lt ∙ ap (λ y. take i met ++ y ∷ []) (sym is)))
    (sets_join (Bars numbers (take i met) step) (BarsOne numbers q step) (Bars numbers (take i met ++ q ∷ []) step) a b c s t
    (λ x h. (h.0, Contains-append_left (take i met) (q ∷ []) h.0 h.1, h.2, h.3))
    (λ x h. (q, at_end (take i met) q, h.0, h.1))
    (λ x h. elim (in_more (take i met) q h.0 h.1) [ inl d ↦ inl (h.0, d, h.2, h.3) | inr e ↦ inr (subst (λ k. k < length numbers) e h.2, subst (λ k. slice_index numbers k ≡ x + step) e h.3) ]))

pub bars_all : (numbers met : List ℕ) (i step : ℕ) (a b : List Bool) → length met ≤ i → Sets (Bars numbers (take i met) step) a b → Sets (Bars numbers met step) a b
bars_all numbers met i step a b le s = subst (λ (l : List ℕ). Sets (Bars numbers l step) a b) (take_all i met le) s

-- ---- runs

pub run_none : (c : Clash) (numbers : List ℕ) (at : ℕ) (m : List Bool) → Sets (BarsRun c numbers at 0) m m
run_none c numbers at m = sets_none (BarsRun c numbers at 0) m (λ x s lt. omega (arith, s.1))

pub run_more : (c : Clash) (numbers rows back : List ℕ) (at size : ℕ) (m n o p : List Bool) → rows ≡ row_of c.rows.items (at + size) → back ≡ row_of c.back.items (at + size) → Sets (BarsRun c numbers at size) m n → Sets (Bars numbers rows size) n o → Sets (Bars numbers back size) o p → Sets (BarsRun c numbers at (size + 1)) m p
run_more c numbers rows back at size m n o p is is' s t u = sets_join (BarsRun c numbers at size) (λ x. Bars numbers rows size x ⊎ Bars numbers back size x) (BarsRun c numbers at (size + 1)) m n p s
    (sets_join (Bars numbers rows size) (Bars numbers back size) (λ x. Bars numbers rows size x ⊎ Bars numbers back size x) n o p t u (λ x h. inl h) (λ x h. inr h) (λ x h. h))
    (λ x h. (h.0, omega (arith, h.1), h.2, h.3, h.4, h.5))
    met
    split_run
  where
    met : (x : ℕ) → Bars numbers rows size x ⊎ Bars numbers back size x → BarsRun c numbers at (size + 1) x
    met x (inl h) = (size, omega arith, h.0, h.2, h.3, inl (subst (λ (l : List ℕ). Contains l h.0) is h.1))
    met x (inr h) = (size, omega arith, h.0, h.2, h.3, inr (subst (λ (l : List ℕ). Contains l h.0) is' h.1))

    split_run : (x : ℕ) → BarsRun c numbers at (size + 1) x → BarsRun c numbers at size x ⊎ (Bars numbers rows size x ⊎ Bars numbers back size x)
    split_run x (i, lt, q, below, e, meets) = by (cases_lt i size)
      where
        by : (i < size) ⊎ (size ≤ i) → BarsRun c numbers at size x ⊎ (Bars numbers rows size x ⊎ Bars numbers back size x)
        by (inl l) = inl (i, l, q, below, e, meets)
        by (inr le) = let same : i ≡ size = omega (arith, lt, le) in
            inr (elim (subst (λ k. Meets c (at + k) q) same meets) [
              | inl d ↦ inl (q, subst (λ (l : List ℕ). Contains l q) (sym is) d, below, e ∙ ap (λ k. x + k) same)
              | inr d ↦ inr (q, subst (λ (l : List ℕ). Contains l q) (sym is') d, below, e ∙ ap (λ k. x + k) same)
            ])
