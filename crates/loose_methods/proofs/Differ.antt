-- Entries that differ, and that the methods of a class do.
use Rattle.std.proofs.Common.{◌≡◌, ℕ, zero, suc, ◌<◌, ◌⊎◌, inl, inr, Bool, true, false, true≢false, nat_eq, List, [], ◌∷◌, ◌++◌, Some, refl, sym, ap, ◌∙◌, arith}
use Rattle.std.specs.Prelude.{◌&&◌, ◌||◌, slice_get, if◌then◌else◌}
use Rattle.std.specs.List.{list_any, list_all}
use Rattle.std.specs.Cmp.Lexicographic.{pointwise, nat_list_eq_equiv}
use Rattle.std.proofs.lemmas.Bool.{cases_lt}
use Rattle.std.proofs.lemmas.List.Folds.{list_any-append}
use Rattle.program_model.specs.Distinct.{same_entry, differ_from, all_differ, own_method_key}
use Rattle.program_model.specs.Neighbours.{neighbours}
use Rattle.program_model.specs.ValueRules.{marks_fit}
use Rattle.program_model.specs.MemberRules.{class_fits, types_of_class_fit, source_fits, fields_fit, methods_fit, method_fits, methods_in_order}
use Rattle.program_model.specs.declared.program.Class.{Class}
use Rattle.program_model.specs.declared.program.Program.{Program}
use Rattle.class_defs.proofs.WellFormed.{and_right}

or_left : (a b : Bool) → (a || b) ≡ false → a ≡ false
or_left true b e = e
or_left false b e = refl

or_right : (a b : Bool) → (a || b) ≡ false → b ≡ false
or_right true b e = absurd (true≢false e)
or_right false b e = e

-- ---- entries that differ

module _ {X : Type 0} (key : X → List ℕ) where
  branch : (b c : Bool) → (if b then false else c) ≡ true → (b ≡ false) × (c ≡ true)
  branch true c h = absurd (true≢false (sym h))
  branch false c h = (refl, h)

  -- an entry is none of those before it
  apart_before : (before xs : List X) (i : ℕ) (y : X) → differ_from key before xs ≡ true → slice_get xs i ≡ Some y → list_any (λ b. same_entry key b y) before ≡ false
  apart_before before [] i y h e = cc
  apart_before before (x ∷ xs) zero y h e = ap (λ z. list_any (λ b. same_entry key b z) before) (let s : y ≡ x = cc in s) ∙ (branch _ _ h).0
  apart_before before (x ∷ xs) (suc i) y h e =
      or_left _ _ (sym (list_any-append (λ b. same_entry key b y) before (x ∷ [])) ∙ apart_before (before ++ x ∷ []) xs i y (branch _ _ h).1 e)

  apart : (before xs : List X) (i j : ℕ) (x y : X) → differ_from key before xs ≡ true → slice_get xs i ≡ Some x → slice_get xs j ≡ Some y → i < j → same_entry key x y ≡ false
  apart before [] i j x y h e f lt = cc
  apart before (z ∷ zs) zero zero x y h e f lt = absurd (omega arith)
  apart before (z ∷ zs) zero (suc j) x y h e f lt =
      let s : x ≡ z = cc in
      let a = or_right (list_any (λ b. same_entry key b y) before) _ (sym (list_any-append (λ b. same_entry key b y) before (z ∷ [])) ∙ apart_before (before ++ z ∷ []) zs j y (branch _ _ h).1 f) in
      ap (λ w. same_entry key w y) s ∙ or_left _ _ a
  apart before (z ∷ zs) (suc i) zero x y h e f lt = absurd (omega arith)
  apart before (z ∷ zs) (suc i) (suc j) x y h e f lt = apart (before ++ z ∷ []) zs i j x y (branch _ _ h).1 e f (omega arith)

  self : (x y : X) → key x ≡ key y → same_entry key x y ≡ false → ⊥
  self x y e f = true≢false (sym (nat_list_eq_equiv.refl (key x)) ∙ ap (pointwise nat_eq (key x)) e ∙ f)

  compare : (i j : ℕ) → (i < j) ⊎ ((i ≡ j) ⊎ (j < i))
  compare i j = elim (cases_lt i j) [ inl l ↦ inl l | inr g ↦ elim (cases_lt j i) [ inl l ↦ inr (inr l) | inr k ↦ inr (inl (omega arith)) ] ]

  -- entries of one key have one number
  pub same_number : (xs : List X) (i j : ℕ) (x y : X) → all_differ key xs ≡ true → slice_get xs i ≡ Some x → slice_get xs j ≡ Some y → key x ≡ key y → i ≡ j
  same_number xs i j x y h e f k = elim (compare i j) [
    | inl lt ↦ absurd (self x y k (apart [] xs i j x y h e f lt))
    | inr (inl eq) ↦ eq
    | inr (inr gt) ↦ absurd (self y x (sym k) (apart [] xs j i y x h f e gt))
  ]

-- ---- the methods of a class

pub methods_differ : (p : Program) (c : Class) → class_fits p c ≡ true → all_differ own_method_key c.methods ≡ true
unfolding class_fits methods_fit
methods_differ p c h =
    let two = and_right (types_of_class_fit p c && (source_fits p c.source && marks_fit p c.marks)) (fields_fit p c.name c.fields && methods_fit p c.name c.methods) h in
    let three = and_right (fields_fit p c.name c.fields) (methods_fit p c.name c.methods) two in
    and_right (list_all (methods_in_order p) (neighbours c.methods)) (all_differ own_method_key c.methods)
    (and_right (list_all (method_fits p c.name) c.methods) (list_all (methods_in_order p) (neighbours c.methods) && all_differ own_method_key c.methods) three)
