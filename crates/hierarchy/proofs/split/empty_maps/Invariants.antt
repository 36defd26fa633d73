use Rattle.std.proofs.Common.{◌≡◌, replicate}
use Rattle.std.specs.FinMap as finite
use Rattle.hierarchy.proofs.split.empty_maps.Given as goal

abbrev pub invariant-loop : goal.invariant-loop
invariant-loop l = l.maps.items ≡ replicate l.counter finite.empty
