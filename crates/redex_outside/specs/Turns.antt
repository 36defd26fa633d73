-- The turns that an adviser takes.
use Rattle.std.specs.Prelude.{ℕ, ◌+◌, List, [], ◌∷◌}
use Rattle.redex_outside.specs.declared.adviser.Key.{Key}
use Rattle.redex_outside.specs.declared.adviser.Ask.{Ask}

-- One `tell` that succeeded, with its key, number and text, or one `weigh`.
pub data Turn : Type 0 where
  Told : Key → ℕ → List ℕ → Turn
  Weighed : Ask → Turn

-- How many of the turns are a `weigh`.
abbrev pub weigh_count : List Turn → ℕ
weigh_count [] = 0
weigh_count (Told key number text ∷ rest) = weigh_count rest
weigh_count (Weighed ask ∷ rest) = weigh_count rest + 1
