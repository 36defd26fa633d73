-- No goto comes to lead to itself: of the positions between it and its target the last would be held.
use Rattle.std.proofs.Common.{◌≡◌, inl, inr, ℕ, zero, suc, ◌<◌, ◌≤◌, true, false, true≢false, List, [], ◌∷◌, length, sym, ap, ◌∙◌, subst, arith}
use Rattle.std.specs.Prelude.{not, ◌&&◌, ◌||◌, nat_le, Some, slice_get}
use Rattle.std.specs.List.{list_any}
use Rattle.std.proofs.lemmas.Bool.{cases_lt, le-leb}
use Rattle.lemmas.proofs.Bools.{and_both}
use Rattle.lemmas.proofs.Lists.{get_there, got_short}
use Rattle.lemmas.proofs.Numbers.{next_is}
use Rattle.insn_set.specs.Flow.{targets_of}
use Rattle.insn_set.specs.declared.form.Insn.{Insn}
use Rattle.insn_set.specs.declared.form.Insn.TheVariants as insn
use Rattle.program_model.specs.declared.body.Body.{Body}
use Rattle.pass_defs.specs.Thinned.{Fate as Meant, place}
use Rattle.pass_defs.specs.Thinned.{Stays as MeantStays, Empties as MeantEmpties, Goes as MeantGoes}
use Rattle.body_edit.specs.declared.fate.Fate.{Fate}
use Rattle.body_edit.specs.declared.fate.Fate.TheVariants.{Stays}
use Rattle.thin_laws.proofs.Places.{IsLeft, place_next}
use Rattle.thin_pass.specs.Wishing.{wish_at, goes, is_to_go, is_between, leads_into, holds, is_held}
use Rattle.bodies_kept.specs.Right.{fates_by}
use Rattle.bodies_kept.proofs.Chosen.{long, goes_by, stays_by, chosen_at, insn_there}
use Rattle.layout_law.specs.Circles.{NoneCircles}
use Rattle.layout_law.proofs.Thinned.{place_rises}

between_one : (first last t : ℕ) → first ≤ t → t ≤ last → list_any (is_between first last) (t ∷ []) ≡ true
between_one first last t a b = ap (λ x. x || false) (and_both (nat_le first t) (nat_le t last) (le-leb first t a) (le-leb t last b))

module _ (ws : List Fate) (b : Body) where
  abbrev fs : List Meant
  fs = fates_by ws b

  -- no position between them is left, if both come to one place
  all_gone : (t n : ℕ) → n < length b.insns → place fs t ≡ place fs n → (k : ℕ) → t ≤ k → k < n → slice_get fs k ≡ Some MeantGoes
  all_gone t n m e k a c =
      let x = get_there fs k (subst (λ (z : ℕ). k < z) (sym (long b.insns ws)) (omega (arith, m, c))) in by x.0 x.1
    where
      low : place fs t ≤ place fs k
      low = place_rises fs t k a

      high : place fs (suc k) ≤ place fs n
      high = place_rises fs (suc k) n (omega (arith, c))

      not_left : IsLeft (slice_get fs k) → ⊥
      not_left j = let s = place_next fs k j in omega (arith, s, low, high, e)

      by : (f : Meant) → slice_get fs k ≡ Some f → slice_get fs k ≡ Some MeantGoes
      by MeantGoes d = d
      by MeantStays d = absurd (not_left (subst IsLeft (sym d) tt))
      by MeantEmpties d = absurd (not_left (subst IsLeft (sym d) tt))

  to_go : (j : ℕ) → slice_get fs j ≡ Some MeantGoes → is_to_go ws j ≡ true
  to_go j d = let x = insn_there b.insns ws j MeantGoes d in ap goes (goes_by (wish_at ws j) (is_held b.insns ws x.1.1.start j) x.0 (sym x.1.1.is_it)).0

  holding : (i : Insn) (k start : ℕ) → wish_at ws (suc k) ≡ Stays → slice_get b.insns (suc k) ≡ Some i → list_any (is_between start k) (targets_of i) ≡ true → is_held b.insns ws start k ≡ true
  holding i k start stay e d = subst (λ (j : ℕ). holds (is_to_go ws j) start k (slice_get b.insns j) ≡ true) (sym (next_is k))
      (ap (λ o. holds (is_to_go ws (suc k)) start k o) e ∙ ap (λ v. not (goes v) && leads_into start k i) stay ∙ d)

  -- the last of them would be held
  apart : (n t : ℕ) → t < n → slice_get fs n ≡ Some MeantStays → slice_get b.insns n ≡ Some (insn.Goto t) → place fs t ≡ place fs n → ⊥
  apart zero t l h e s = omega (arith, l)
  apart (suc k) t l h e s =
      let m = got_short b.insns (suc k) (insn.Goto t) e in
      let gone : (j : ℕ) → t ≤ j → j < suc k → slice_get fs j ≡ Some MeantGoes = all_gone t (suc k) m s in
      let a = insn_there b.insns ws k MeantGoes (gone k (omega (arith, l)) (omega arith)) in
      let w = goes_by (wish_at ws k) (is_held b.insns ws a.1.1.start k) a.0 (sym a.1.1.is_it) in
      let here = chosen_at b.insns ws (suc k) (insn.Goto t) MeantStays e h in
      let stay : wish_at ws (suc k) ≡ Stays = stays_by (wish_at ws (suc k)) (is_held b.insns ws here.start (suc k)) (insn.Goto t) (λ d. cc) (sym here.is_it) in
      let first : a.1.1.start ≤ t = a.1.1.run.least t (omega (arith, l)) (λ j x y. to_go j (gone j x (omega (arith, y)))) in
      absurd (true≢false (sym (holding (insn.Goto t) k a.1.1.start stay e (between_one a.1.1.start k t first (omega (arith, l)))) ∙ w.1))

  pub none_circles : NoneCircles fs b
  none_circles n t h e l = elim (cases_lt (place fs t) (place fs n)) [
    | inl m ↦ m
    | inr m ↦ (let r = place_rises fs t n (omega (arith, l)) in absurd (apart n t l h e (omega (arith, m, r))))
  ]
