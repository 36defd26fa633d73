-- Numbers that ascend.
use Rattle.std.specs.Prelude.{◌≤◌, ℕ, suc, List, [], ◌∷◌}

-- strictly ascending from a place on
abbrev pub Rising : ℕ → List ℕ → Type 0
Rising from [] = Unit {0}
Rising from (o ∷ os) = (from ≤ o) × Rising (suc o) os
