-- What it means that a reading finds exactly what stands there; and what stands in entries that hand on what is left.
use Rattle.std.specs.Prelude.{◌≡◌, ℕ, suc, List, [], ◌∷◌, Bool, true, Result, Ok}

-- What is read is what stands there, and what stands there is read, so nothing else does.
pub record Finds {Y F : Type 0} (Is : Y → Type 0) (read : Result Y F) : Type 0 where
  pub found : (y : Y) → read ≡ Ok y → Is y
  pub again : (y : Y) → Is y → read ≡ Ok y

-- entries one behind another, the first of which has this number, and what each one leaves
abbrev pub RunOf : {X S : Type 0} → (ℕ → S → X × S → Type 0) → ℕ → S → List X → S → Type 0
RunOf Is from s [] stop = stop ≡ s
RunOf {X} {S} Is from s (x ∷ xs) stop = (mid : S) × Is from s (x, mid) × RunOf Is (suc from) mid xs stop

-- each entry stands below the next one
abbrev pub Ascends : {X : Type 0} → (X → X → Bool) → List X → Type 0
Ascends below [] = Unit {0}
Ascends below (x ∷ []) = Unit {0}
Ascends below (x ∷ y ∷ xs) = (below x y ≡ true) × Ascends below (y ∷ xs)
