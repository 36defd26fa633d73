-- What stands in lists that are filtered, mapped, or changed place by place.
use Rattle.std.proofs.Common.{◌≡◌, ℕ, zero, suc, ◌<◌, Bool, true, false, List, [], ◌∷◌, Option, Some, None, refl, sym, ap, ◌∙◌, subst, arith}
use Rattle.std.specs.Prelude.{length, map, filter, slice_get, if◌then◌else◌}
use Rattle.lemmas.proofs.Lists.{get_map, got_short, get_there}
use Rattle.lemmas.proofs.Options.{some_same, none_some, before_map}
use Rattle.bodies_kept.specs.Stays.{Stands}

pub behind : {A : Type 0} (x y : A) (xs : List A) → Stands xs y → Stands (x ∷ xs) y
behind x y xs s = (suc s.0, s.1)

pub first : {A : Type 0} (x : A) (xs : List A) → Stands (x ∷ xs) x
first x xs = (zero, refl)

pub in_filter : {A : Type 0} (f : A → Bool) (xs : List A) (y : A) → Stands (filter f xs) y → Stands xs y
in_filter f [] y s = s
in_filter f (x ∷ xs) y s = by (f x) s (λ t. behind x y xs (in_filter f xs y t))
  where
    by : (b : Bool) → Stands (if b then x ∷ filter f xs else filter f xs) y → (Stands (filter f xs) y → Stands (x ∷ xs) y) → Stands (x ∷ xs) y
    by true (zero, e) later = (zero, e)
    by true (suc k, e) later = later (k, e)
    by false t later = later t

pub in_map : {A B : Type 0} (f : A → B) (xs : List A) (y : B) → Stands (map f xs) y → (x : A) × (Stands xs x × (f x ≡ y))
in_map f xs y s = let b = before_map f (slice_get xs s.0) y (sym (get_map f xs s.0) ∙ s.1) in (b.0, ((s.0, b.1.0), b.1.1))
