use Rattle.std.proofs.Common.{◌≡◌, false, take}
use Rattle.hierarchy.specs.Shapes.{IsOf}
use Rattle.call_graph.specs.Above.{has_outer}
use Rattle.call_targets.proofs.above.has_outer.Given as goal

abbrev pub invariant-loop-kind : goal.invariant-loop-kind
invariant-loop-kind l = IsOf l.at.program.now l.at.hierarchy.now → has_outer l.at.program.now l.object (take l.kind-index l.kinds) ≡ false
