-- The lines of a thinned body fit it.
use Rattle.std.proofs.Common.{◌≡◌, ◌⊎◌, inl, inr, ℕ, zero, suc, Bool, true, false, true≢false, List, [], ◌∷◌, length, refl, sym, ap, ◌∙◌, subst, arith, eq-eqb, if◌then◌else◌}
use Rattle.std.specs.Prelude.{not, ◌&&◌, ◌||◌, nat_eq, nat_le}
use Rattle.std.specs.List.{list_any, list_all}
use Rattle.std.proofs.lemmas.Bool.{eqb-true}
use Rattle.lemmas.proofs.Bools.{and_right}
use Rattle.insn_set.specs.declared.form.Insn.{Insn}
use Rattle.program_model.specs.Neighbours.{neighbours}
use Rattle.program_model.specs.LineRules.{goes_on_with_lines, lines_fit}
use Rattle.pass_defs.specs.Thinned.{Fate as Meant, Stays, Empties, Goes, left, insns_left}
use Rattle.program_laws.proofs.ChangedLists.{and_left, and_both}
use Rattle.thin_pass.specs.Plans.{lines_of}

abbrev is_line : ℕ → Bool
is_line line = not (nat_eq line 0)

abbrev is_small_line : ℕ → Bool
is_small_line line = nat_le line 2147483647

-- what holds of all holds of what is left
all_left : (f : ℕ → Bool) (fs : List Meant) (ls : List ℕ) → list_all f ls ≡ true → list_all f (left fs ls) ≡ true
all_left f fs [] e = refl
all_left f [] (l ∷ ls) e = refl
all_left f (Goes ∷ fs) (l ∷ ls) e = all_left f fs ls (and_right (f l) (list_all f ls) e)
all_left f (Stays ∷ fs) (l ∷ ls) e = and_both (f l) (list_all f (left fs ls)) (and_left (f l) (list_all f ls) e) (all_left f fs ls (and_right (f l) (list_all f ls) e))
all_left f (Empties ∷ fs) (l ∷ ls) e = and_both (f l) (list_all f (left fs ls)) (and_left (f l) (list_all f ls) e) (all_left f fs ls (and_right (f l) (list_all f ls) e))

left_long : (at : ℕ → ℕ) (fs : List Meant) (ls : List ℕ) (is : List Insn) → length ls ≡ length is → length (left fs ls) ≡ length (insns_left at fs is)
left_long at fs [] [] e = refl
left_long at fs [] (i ∷ is) e = let f : ⊥ = omega (arith, e) in absurd f
left_long at fs (l ∷ ls) [] e = let f : ⊥ = omega (arith, e) in absurd f
left_long at [] (l ∷ ls) (i ∷ is) e = refl
left_long at (Goes ∷ fs) (l ∷ ls) (i ∷ is) e = left_long at fs ls is (omega (arith, e))
left_long at (Stays ∷ fs) (l ∷ ls) (i ∷ is) e = ap suc (left_long at fs ls is (omega (arith, e)))
left_long at (Empties ∷ fs) (l ∷ ls) (i ∷ is) e = ap suc (left_long at fs ls is (omega (arith, e)))

-- ---- no 0 behind a line

-- each line is 0, or only lines stand behind it
abbrev Lined : List ℕ → Type 0
Lined [] = Unit {0}
Lined (l ∷ ls) = ((nat_eq l 0 ≡ true) ⊎ (list_all is_line ls ≡ true)) × Lined ls

lined_left : (fs : List Meant) (ls : List ℕ) → Lined ls → Lined (left fs ls)
lined_left fs [] h = tt
lined_left [] (l ∷ ls) h = tt
lined_left (Goes ∷ fs) (l ∷ ls) h = lined_left fs ls h.1
lined_left (Stays ∷ fs) (l ∷ ls) h = (elim h.0 [ inl e ↦ inl e | inr a ↦ inr (all_left is_line fs ls a) ], lined_left fs ls h.1)
lined_left (Empties ∷ fs) (l ∷ ls) h = (elim h.0 [ inl e ↦ inl e | inr a ↦ inr (all_left is_line fs ls a) ], lined_left fs ls h.1)

lined_from : (ls : List ℕ) → list_all goes_on_with_lines (neighbours ls) ≡ true → Lined ls
lined_from [] e = tt
lined_from (l ∷ []) e = (inr refl, tt)
lined_from (l ∷ (k ∷ ls)) e = let rest = lined_from (k ∷ ls) (and_right (goes_on_with_lines (l, k)) (list_all goes_on_with_lines (neighbours (k ∷ ls))) e) in
    (by (nat_eq l 0) refl (and_left (goes_on_with_lines (l, k)) (list_all goes_on_with_lines (neighbours (k ∷ ls))) e) rest.0, rest)
  where
    further : not (nat_eq k 0) ≡ true → (nat_eq k 0 ≡ true) ⊎ (list_all is_line ls ≡ true) → list_all is_line (k ∷ ls) ≡ true
    further d (inl e) = absurd (true≢false (sym d ∙ ap not e))
    further d (inr a) = and_both (is_line k) (list_all is_line ls) d a

    by : (z : Bool) → nat_eq l 0 ≡ z → (nat_eq l 0 || not (nat_eq k 0)) ≡ true → (nat_eq k 0 ≡ true) ⊎ (list_all is_line ls ≡ true) → (nat_eq l 0 ≡ true) ⊎ (list_all is_line (k ∷ ls) ≡ true)
    by true d h r = inl d
    by false d h r = inr (further (sym (ap (λ x. x || not (nat_eq k 0)) d) ∙ h) r)

lined_to : (ls : List ℕ) → Lined ls → list_all goes_on_with_lines (neighbours ls) ≡ true
lined_to [] h = refl
lined_to (l ∷ []) h = refl
lined_to (l ∷ (k ∷ ls)) h = and_both (goes_on_with_lines (l, k)) (list_all goes_on_with_lines (neighbours (k ∷ ls))) (by h.0) (lined_to (k ∷ ls) h.1)
  where
    or_right : (a b : Bool) → b ≡ true → (a || b) ≡ true
    or_right true b e = refl
    or_right false b e = e

    by : (nat_eq l 0 ≡ true) ⊎ (list_all is_line (k ∷ ls) ≡ true) → goes_on_with_lines (l, k) ≡ true
    by (inl e) = ap (λ x. x || not (nat_eq k 0)) e
    by (inr a) = or_right (nat_eq l 0) (not (nat_eq k 0)) (and_left (is_line k) (list_all is_line ls) a)

-- ---- the lines

none_left : (fs : List Meant) (ls : List ℕ) → nat_eq (length ls) 0 ≡ true → left fs ls ≡ []
none_left fs [] e = refl
none_left fs (l ∷ ls) e = let f : ⊥ = let d = eqb-true (suc (length ls)) 0 e in omega (arith, d) in absurd f

pub lines_left_fit : (at : ℕ → ℕ) (fs : List Meant) (is : List Insn) (ls : List ℕ) → lines_fit (length is) ls ≡ true → lines_fit (length (insns_left at fs is)) (lines_of (left fs ls)) ≡ true
unfolding lines_fit
lines_left_fit at fs is ls h = by (list_any is_line (left fs ls)) refl
  where
    tests : List ℕ → ℕ → Bool
    tests ks n = (nat_eq (length ks) n && list_any is_line ks) && (list_all is_small_line ks && list_all goes_on_with_lines (neighbours ks))

    given : (z : Bool) → nat_eq (length ls) 0 ≡ z → list_any is_line (left fs ls) ≡ true → tests ls (length is) ≡ true
    given true e d = absurd (true≢false (sym d ∙ ap (list_any is_line) (none_left fs ls e)))
    given false e d = sym (ap (λ z. z || tests ls (length is)) e) ∙ h

    or_right : (a b : Bool) → b ≡ true → (a || b) ≡ true
    or_right true b e = refl
    or_right false b e = e

    new : list_any is_line (left fs ls) ≡ true → tests ls (length is) ≡ true → tests (left fs ls) (length (insns_left at fs is)) ≡ true
    new d t =
        let front = and_left (nat_eq (length ls) (length is) && list_any is_line ls) (list_all is_small_line ls && list_all goes_on_with_lines (neighbours ls)) t in
        let back = and_right (nat_eq (length ls) (length is) && list_any is_line ls) (list_all is_small_line ls && list_all goes_on_with_lines (neighbours ls)) t in
        let long = eqb-true (length ls) (length is) (and_left (nat_eq (length ls) (length is)) (list_any is_line ls) front) in
        and_both (nat_eq (length (left fs ls)) (length (insns_left at fs is)) && list_any is_line (left fs ls)) (list_all is_small_line (left fs ls) && list_all goes_on_with_lines (neighbours (left fs ls)))
        (and_both (nat_eq (length (left fs ls)) (length (insns_left at fs is))) (list_any is_line (left fs ls)) (eq-eqb (length (left fs ls)) (length (insns_left at fs is)) (left_long at fs ls is long)) d)
        (and_both (list_all is_small_line (left fs ls)) (list_all goes_on_with_lines (neighbours (left fs ls)))
        (all_left is_small_line fs ls (and_left (list_all is_small_line ls) (list_all goes_on_with_lines (neighbours ls)) back))
        (lined_to (left fs ls) (lined_left fs ls (lined_from ls (and_right (list_all is_small_line ls) (list_all goes_on_with_lines (neighbours ls)) back)))))

    by : (z : Bool) → list_any is_line (left fs ls) ≡ z → lines_fit (length (insns_left at fs is)) (if z then left fs ls else []) ≡ true
    by false d = refl
    by true d = or_right (nat_eq (length (left fs ls)) 0) (tests (left fs ls) (length (insns_left at fs is))) (new d (given (nat_eq (length ls) 0) refl d))
