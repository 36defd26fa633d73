use Rattle.std.proofs.Common.{◌≡◌, ◌++◌, take}
use Rattle.std.specs.List.{flat_map}
use Rattle.hierarchy.specs.Shapes.{IsResolved}
use Rattle.call_graph.specs.Follows.{coded}
use Rattle.call_graph.proofs.follow.add_with_code.Given as goal

abbrev pub invariant-loop-method : goal.invariant-loop-method
invariant-loop-method l = IsResolved l.at.program.now l.at.hierarchy.now → l.out.items ≡ l.initial.out.items ++ flat_map (coded l.at.program.now) (take l.method-index l.methods)
