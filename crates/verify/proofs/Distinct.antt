-- Tables without two equal entries.
use Rattle.std.proofs.Common.{◌≡◌, ℕ, zero, suc, ◌<◌, Bool, true, false, true≢false, List, [], ◌∷◌, ◌++◌, Some, refl, sym, ap, ◌∙◌, arith, ◌⊎◌, inl, inr}
use Rattle.std.specs.Prelude.{◌||◌, if◌then◌else◌, slice_get, nat_eq}
use Rattle.std.specs.List.{list_any}
use Rattle.std.specs.Cmp.Lexicographic.{pointwise, nat_list_eq_equiv}
use Rattle.std.proofs.lemmas.Bool.{cases_lt}
use Rattle.std.proofs.lemmas.List.Folds.{list_any-append}
use Rattle.program_model.specs.Distinct.{same_entry, differ_from, all_differ}

or_left : (a b : Bool) → (a || b) ≡ false → a ≡ false
or_left true b e = e
or_left false b e = refl

or_right : (a b : Bool) → (a || b) ≡ false → b ≡ false
or_right true b e = absurd (true≢false e)
or_right false b e = e

compare : (i j : ℕ) → (i < j) ⊎ ((i ≡ j) ⊎ (j < i))
compare i j = elim (cases_lt i j) [ inl l ↦ inl l | inr g ↦ elim (cases_lt j i) [ inl l ↦ inr (inr l) | inr k ↦ inr (inl (omega arith)) ] ]

module _ {X : Type 0} (key : X → List ℕ) where
  branch : (b c : Bool) → (if b then false else c) ≡ true → (b ≡ false) × (c ≡ true)
  branch true c h = absurd (true≢false (sym h))
  branch false c h = (refl, h)

  -- an entry is none of those before it
  apart_before : (before xs : List X) (i : ℕ) (y : X) → differ_from key before xs ≡ true → slice_get xs i ≡ Some y → list_any (λ b. same_entry key b y) before ≡ false
  apart_before before [] i y h e = cc
  apart_before before (x ∷ xs) zero y h e = ap (λ z. list_any (λ b. same_entry key b z) before) (let s : y ≡ x = cc in s) ∙ (branch _ _ h).0
  apart_before before (x ∷ xs) (suc i) y h e =
      or_left _ _ (sym (list_any-append (λ b. same_entry key b y) before (x ∷ [])) ∙ apart_before (before ++ x ∷ []) xs i y (branch _ _ h).1 e)

  apart : (before xs : List X) (i j : ℕ) (x y : X) → differ_from key before xs ≡ true → slice_get xs i ≡ Some x → slice_get xs j ≡ Some y → i < j → same_entry key x y ≡ false
  apart before [] i j x y h e f lt = cc
  apart before (z ∷ zs) zero zero x y h e f lt = absurd (omega arith)
  apart before (z ∷ zs) zero (suc j) x y h e f lt =
      let a = or_right (list_any (λ b. same_entry key b y) before) _ (sym (list_any-append (λ b. same_entry key b y) before (z ∷ [])) ∙ apart_before (before ++ z ∷ []) zs j y (branch _ _ h).1 f) in
      ap (λ w. same_entry key w y) (let s : x ≡ z = cc in s) ∙ or_left _ _ a
  apart before (z ∷ zs) (suc i) zero x y h e f lt = absurd (omega arith)
  apart before (z ∷ zs) (suc i) (suc j) x y h e f lt = apart (before ++ z ∷ []) zs i j x y (branch _ _ h).1 e f (omega arith)

  self : (x y : X) → key x ≡ key y → same_entry key x y ≡ false → ⊥
  self x y e f = true≢false (sym (nat_list_eq_equiv.refl (key x)) ∙ ap (pointwise nat_eq (key x)) e ∙ f)

  -- entries of one key have one number
  pub same_entries : (xs : List X) (i j : ℕ) (x y : X) → all_differ key xs ≡ true → slice_get xs i ≡ Some x → slice_get xs j ≡ Some y → key x ≡ key y → i ≡ j
  same_entries xs i j x y h e f k = elim (compare i j) [
    | inl lt ↦ absurd (self x y k (apart [] xs i j x y h e f lt))
    | inr (inl eq) ↦ eq
    | inr (inr gt) ↦ absurd (self y x (sym k) (apart [] xs j i y x h f e gt))
  ]
