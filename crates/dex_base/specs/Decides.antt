-- What it means that a reading finds what stands there, and else a fault that stands there; and what stands in tables and in chains.
use Rattle.std.specs.Prelude.{◌≡◌, ◌+◌, ℕ, zero, suc, ◌⊎◌, List, [], ◌∷◌, length, Result, Ok, Err}

-- What is read is what stands there, what stands there is read, so nothing else does, a fault that is given stands there, and none
-- stands where something is read.
pub record Decides {Y F : Type 0} (Is : Y → Type 0) (Has : F → Type 0) (read : Result Y F) : Type 0 where
  pub found : (y : Y) → read ≡ Ok y → Is y
  pub again : (y : Y) → Is y → read ≡ Ok y
  pub fault : (e : F) → read ≡ Err e → Has e
  pub clean : (y : Y) (e : F) → read ≡ Ok y → Has e → ⊥

-- each of a list, whose first has this place
abbrev pub Each : {X : Type 0} → (ℕ → X → Type 0) → ℕ → List X → Type 0
Each Is from [] = Unit {0}
Each Is from (x ∷ xs) = Is from x × Each Is (suc from) xs

-- so many entries, and what each of them is
abbrev pub Entries : {X : Type 0} → ℕ → (ℕ → X → Type 0) → List X → Type 0
Entries count Is xs = (length xs ≡ count) × Each Is 0 xs

-- items one behind another, each with the place behind it
abbrev pub ChainOf : {X : Type 0} → (ℕ → X × ℕ → Type 0) → ℕ → List X → ℕ → Type 0
ChainOf Is at [] stop = stop ≡ at
ChainOf Is at (x ∷ xs) stop = (mid : ℕ) × Is at (x, mid) × ChainOf Is mid xs stop

-- one of so many items has the fault, and those before it are right
abbrev pub BadChain : {X F : Type 0} → (ℕ → X × ℕ → Type 0) → (ℕ → F → Type 0) → ℕ → ℕ → F → Type 0
BadChain {X} {F} Is Has zero at e = ⊥
BadChain {X} {F} Is Has (suc n) at e = Has at e ⊎ ((x : X × ℕ) × Is at x × BadChain Is Has n x.1 e)
