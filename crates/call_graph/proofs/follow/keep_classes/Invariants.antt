use Rattle.std.proofs.Common.{◌≡◌, ◌++◌, take}
use Rattle.std.specs.List.{flat_map}
use Rattle.hierarchy.specs.Shapes.{IsResolved}
use Rattle.call_graph.specs.Follows.{kept_class}
use Rattle.call_graph.proofs.follow.keep_classes.Given as goal

abbrev pub invariant-loop-kind : goal.invariant-loop-kind
invariant-loop-kind l = IsResolved l.at.program.now l.at.hierarchy.now → l.out.items ≡ l.initial.out.items ++ flat_map (kept_class l.at.program.now) (take l.kind-index l.kinds)
