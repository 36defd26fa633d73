-- Searches of lists.
use Rattle.std.proofs.Common.{◌≡◌, Bool, true, List, refl}
use Rattle.std.specs.Prelude.{find, Option, Some, None}
use Rattle.removal_law.specs.Left.{In}
use Rattle.removal_law.proofs.Lists.{clash}
use Rattle.removal_law.proofs.Declared.{none_there}

-- a search whose test passes somewhere finds something
pub is_found : {A : Type 0} (f : A → Bool) (x : A) (xs : List A) → In x xs → f x ≡ true → (y : A) × (find f xs ≡ Some y)
is_found {A} f x xs i e = by (find f xs) refl
  where
    by : (o : Option A) → find f xs ≡ o → (y : A) × (find f xs ≡ Some y)
    by (Some y) j = (y, j)
    by None j = clash (f x) e (none_there f xs j x i)
