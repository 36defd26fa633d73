-- The order of pairs.
use Rattle.std.specs.Prelude.{◌≡◌, ℕ, ◌+◌, Bool, true, false, ◌&&◌, refl}
use Rattle.lattice_core.specs.declared.pairs.Pair.{Pair}

-- each part is at or below the other's
pub record BothBelow {A B : Type 0} (a : A → A → Type 0) (b : B → B → Type 0) (x y : Pair A B) : Type 0 where
  pub first : a x.first y.first
  pub second : b x.second y.second

-- each part by its own function
abbrev pub each_part : {A B : Type 0} → (A → A → A) → (B → B → B) → Pair A B → Pair A B → Pair A B
each_part f g x y = record { first = f x.first y.first; second = g x.second y.second }

-- each part holds of its part
pub record BothHold {A B M N : Type 0} (a : A → M → Type 0) (b : B → N → Type 0) (x : Pair A B) (m : M × N) : Type 0 where
  pub first : a x.first m.0
  pub second : b x.second m.1

abbrev pub both_rank : {A B : Type 0} → (A → ℕ) → (B → ℕ) → Pair A B → ℕ
both_rank f g x = f x.first + g x.second

pub both_join_least : {A B : Type 0} (a : A → A → Type 0) (b : B → B → Type 0) (f : A → A → A) (g : B → B → B) (p q : Bool) → (p ≡ true → (x y z : A) → a x z → a y z → a (f x y) z) → (q ≡ true → (x y z : B) → b x z → b y z → b (g x y) z)
    → (p && q) ≡ true → (x y z : Pair A B) → BothBelow a b x z → BothBelow a b y z → BothBelow a b (each_part f g x y) z
both_join_least a b f g true true h k e x y z l m = record { first = h refl _ _ _ l.first m.first; second = k refl _ _ _ l.second m.second }
both_join_least a b f g true false h k e x y z l m = absurd (cc)
both_join_least a b f g false q h k e x y z l m = absurd (cc)
