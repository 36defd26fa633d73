-- A program of which each class was found plain lists plainly.
use Rattle.std.proofs.Common.{◌≡◌, ℕ, zero, suc, true, List, [], ◌∷◌, Option, Some, None, sym, ap, ◌∙◌, refl, arith}
use Rattle.std.specs.Prelude.{slice_get, Contains}
use Rattle.std.specs.List.{list_all}
use Rattle.lemmas.proofs.Bools.{and_left, and_right}
use Rattle.program_model.specs.declared.program.Class.{Class}
use Rattle.program_model.specs.declared.program.Program.{Program}
use Rattle.program_model.specs.Lookups.{class_place}
use Rattle.class_defs.specs.Members.{is_interface}
use Rattle.class_defs.specs.Places.{listed, places_of, placed}
use Rattle.lemmas.proofs.Lists.{all_at}
use Rattle.premises.specs.Plain.{ListsPlainly, lists_plainly, is_interface_at, is_listable, is_plain_class}

module _ (p : Program) where
  first_or : (kind : ℕ) (kinds : List ℕ) (u : ℕ) → is_listable p kind ≡ true → (Contains (places_of p kinds) u → is_interface (slice_get p.classes u) ≡ true)
      → (o : Option ℕ) → class_place p kind ≡ o → Contains (placed o (places_of p kinds)) u → is_interface (slice_get p.classes u) ≡ true
  first_or kind kinds u first rest None e there = rest there
  first_or kind kinds u first rest (Some v) e (zero, l, same) = ap (λ x. is_interface (slice_get p.classes x)) (sym same) ∙ sym (ap (is_interface_at p) e) ∙ first
  first_or kind kinds u first rest (Some v) e (suc n, l, same) = rest (n, omega (arith, l), same)

  among : (kinds : List ℕ) (u : ℕ) → list_all (is_listable p) kinds ≡ true → Contains (places_of p kinds) u → is_interface (slice_get p.classes u) ≡ true
  among [] u h (n, l, e) = let g : ⊥ = omega (arith, l) in absurd g
  among (kind ∷ kinds) u h there =
      first_or kind kinds u (and_left (is_listable p kind) (list_all (is_listable p) kinds) h) (among kinds u (and_right (is_listable p kind) (list_all (is_listable p) kinds) h)) (class_place p kind) refl there

  at_place : lists_plainly p ≡ true → (u : ℕ) (o : Option Class) (c : ℕ) → slice_get p.classes c ≡ o → Contains (listed p o) u → is_interface (slice_get p.classes u) ≡ true
  at_place h u None c e (n, l, same) = let g : ⊥ = omega (arith, l) in absurd g
  at_place h u (Some k) c e there = among k.interfaces u (all_at (is_plain_class p) p.classes c k h e) there

  pub plainly : lists_plainly p ≡ true → ListsPlainly p
  plainly h = record { listed = λ c u there. at_place h u (slice_get p.classes c) c refl there }
