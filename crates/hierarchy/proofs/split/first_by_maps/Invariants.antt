use Rattle.std.proofs.Common.{◌<◌, ℕ, None}
use Rattle.hierarchy.specs.Splitting.{SplitOf, map_of}
use Rattle.hierarchy.specs.Tables.{read_at}
use Rattle.hierarchy.proofs.split.first_by_maps.Given as goal

abbrev pub invariant-loop-class : goal.invariant-loop-class
invariant-loop-class l = (other : ℕ) → other < l.class → SplitOf l.program l.keys l.special other (map_of l.maps (read_at l.supers other)) None
