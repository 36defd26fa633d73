-- What comes to where blocks begin, and to the next position.
use Rattle.std.specs.Prelude.{◌≡◌, ℕ, ◌+◌, List, [], ◌∷◌, Option, Some, None, slice_get, ◌⊎◌}
use Rattle.dom_frame.specs.Registers.{Registers}
use Rattle.closed_facts.specs.Tables.{AreBelow}
use Rattle.facts_check.specs.declared.starts.Start.{Start}
use Rattle.facts_check.specs.declared.starts.Start.TheVariants.{Inside, Idle, Comes}

-- a block begins there with these registers, or higher ones
abbrev pub Lands : Option Start → Registers → Type 0
Lands None x = ⊥
Lands (Some Inside) x = ⊥
Lands (Some Idle) x = ⊥
Lands (Some (Comes y)) x = AreBelow x y

abbrev pub LandsIf : Option Start → Option Registers → Type 0
LandsIf s None = Unit {0}
LandsIf s (Some x) = Lands s x

-- the same registers land at each of some positions
abbrev pub EachLands : List Start → Registers → List ℕ → Type 0
EachLands starts x [] = Unit {0}
EachLands starts x (q ∷ qs) = Lands (slice_get starts q) x × EachLands starts x qs

-- an edge from a position lands at its target, or goes to the next position with just what is handed on there
abbrev pub Goes : List Start → ℕ → Option Registers → ℕ × Registers → Type 0
Goes starts n next q = Lands (slice_get starts q.0) q.1 ⊎ ((q.0 ≡ n + 1) × (next ≡ Some q.1))

abbrev pub EachGoes : List Start → ℕ → Option Registers → List (ℕ × Registers) → Type 0
EachGoes starts n next [] = Unit {0}
EachGoes starts n next (q ∷ qs) = Goes starts n next q × EachGoes starts n next qs

-- what is handed on is at or above these registers
abbrev pub Covers : Option Registers → Registers → Type 0
Covers None x = ⊥
Covers (Some y) x = AreBelow x y
