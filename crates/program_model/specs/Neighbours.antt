-- Entries of a list that stand side by side.
use Rattle.std.specs.Prelude.{List, drop}
use Rattle.std.specs.List.{zip}

-- each entry with the one behind it
abbrev pub neighbours : {X : Type 0} → List X → List (X × X)
neighbours xs = zip xs (drop 1 xs)
