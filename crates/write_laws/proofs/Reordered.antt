-- A list that is put in order has the same elements.
use Rattle.std.proofs.Common.{◌≡◌, List, [], ◌∷◌, map, refl}
use Rattle.std.specs.Prelude.{Bool, true, false}
use Rattle.std.specs.List.Sorted.{IsPermutation}
use Rattle.std.proofs.lemmas.List.Sorted.{IsPermutation-refl, IsPermutation-sym, IsPermutation-cons, IsPermutation-trans, IsPermutation-middle, IsPermutation-map}
use Rattle.program_model.specs.declared.pass.Renumber.{Renumber}
use Rattle.program_model.specs.declared.program.Class.{Class}
use Rattle.program_model.specs.declared.program.Program.{Program}
use Rattle.dex_defs.specs.Written.{insert, in_order, field_below, method_below, written_field, written_method}
use Rattle.write_laws.specs.Reordered.{SameMembers}

inserted : {X : Type 0} (below : X → X → Bool) (x : X) (ys : List X) → IsPermutation (x ∷ ys) (insert below x ys)
inserted below x [] = IsPermutation-refl (x ∷ [])
inserted {X = X} below x (y ∷ ys) = by_test (below x y) refl (inserted below x ys)
  where
    by_test : (t : Bool) → below x y ≡ t → IsPermutation (x ∷ ys) (insert below x ys) → IsPermutation (x ∷ (y ∷ ys)) (insert below x (y ∷ ys))
    by_test true e more = rw e (IsPermutation-refl (x ∷ (y ∷ ys)))
    by_test false e more =
        let swapped : IsPermutation (x ∷ (y ∷ ys)) (y ∷ (x ∷ ys)) = IsPermutation-sym (y ∷ (x ∷ ys)) (x ∷ (y ∷ ys)) (IsPermutation-middle (y ∷ []) x ys) in
        rw e (IsPermutation-trans (x ∷ (y ∷ ys)) (y ∷ (x ∷ ys)) (y ∷ insert below x ys) swapped (IsPermutation-cons y (x ∷ ys) (insert below x ys) more))

pub ordered : {X : Type 0} (below : X → X → Bool) (xs : List X) → IsPermutation xs (in_order below xs)
ordered below [] = IsPermutation-refl []
ordered below (x ∷ xs) = IsPermutation-trans (x ∷ xs) (x ∷ in_order below xs) (insert below x (in_order below xs)) (IsPermutation-cons x xs (in_order below xs) (ordered below xs)) (inserted below x (in_order below xs))

pub same_members : (p : Program) (r : Renumber) (c : Class) → SameMembers p r c
same_members p r c = record {
  fields = ordered field_below (map (written_field r) c.fields);
  methods = IsPermutation-map (written_method r) c.methods (in_order (method_below r p) c.methods) (ordered (method_below r p) c.methods);
}
