-- First entries of lists that are renamed.
use Rattle.std.proofs.Common.{◌≡◌, ℕ, zero, suc, Bool, true, false, List, [], ◌∷◌, map, Option, Some, None, refl, ap, ◌∙◌}
use Rattle.std.specs.Prelude.{cond, slice_get, find}
use Rattle.std.specs.Option.{option_map}
pub use Rattle.class_defs.proofs.Positions.{same_test, both, number_test, number_of, find_place, position_none, position_step, PlaceFits, place_entry, FirstPlace, place_first}

-- tests that agree on a list find the same, renamed
pub find_named : {A B : Type 0} (f : B → Bool) (u : A → Bool) (g : A → B) (xs : List A)
    → ((i : ℕ) (x : A) → slice_get xs i ≡ Some x → f (g x) ≡ u x) → find f (map g xs) ≡ option_map g (find u xs)
find_named f u g [] h = refl
find_named f u g (x ∷ xs) h = step (u x) (h 0 x refl) (find_named f u g xs (λ i y e. h (suc i) y e))
  where
    step : (b : Bool) → f (g x) ≡ b → find f (map g xs) ≡ option_map g (find u xs) → cond (f (g x)) (Some (g x)) (find f (map g xs)) ≡ option_map g (cond b (Some x) (find u xs))
    step true e r = ap (λ b. cond b (Some (g x)) (find f (map g xs))) e
    step false e r = ap (λ b. cond b (Some (g x)) (find f (map g xs))) e ∙ r
