use Rattle.std.proofs.Common.{◌≡◌, ◌++◌, drop}
use Rattle.std.specs.Prelude.{flat_map}
use Rattle.hierarchy.specs.Touring.{others_in}
use Rattle.hierarchy.proofs.queries.others.Given as goal

abbrev pub invariant-loop-range : goal.invariant-loop-range
invariant-loop-range l = l.others.items ++ flat_map (others_in l.places l.class) (drop l.range-index l.ranges) ≡ flat_map (others_in l.places l.class) l.ranges
