-- Options.
use Rattle.std.proofs.Common.{◌≡◌, Bool, true, false, Option, Some, None, refl, ap, true≢false}
use Rattle.std.specs.Prelude.{is_some}
use Rattle.std.specs.Option.{option_map}

pub some_same : {A : Type 0} (x y : A) → Some x ≡ Some y → x ≡ y
some_same x y e = ap (λ o. elim o [ Some z ↦ z | None ↦ x ]) e

pub none_some : {A B : Type 0} (y : A) → None ≡ Some y → B
none_some y e = absurd (true≢false (ap (λ o. elim o as (λ o. Bool) [ Some z ↦ false | None ↦ true ]) e))

pub before_map : {A B : Type 0} (f : A → B) (o : Option A) (y : B) → option_map f o ≡ Some y → (x : A) × ((o ≡ Some x) × (f x ≡ y))
before_map f None y e = none_some y e
before_map f (Some x) y e = (x, (refl, some_same (f x) y e))

pub mapped_some : {A B : Type 0} (f : A → B) (o : Option A) → is_some (option_map f o) ≡ is_some o
mapped_some f None = refl
mapped_some f (Some x) = refl
