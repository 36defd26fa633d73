use Rattle.std.proofs.Common.{◌≡◌, ◌++◌, take}
use Rattle.std.specs.List.{flat_map}
use Rattle.hierarchy.specs.Shapes.{IsResolved}
use Rattle.call_graph.specs.Follows.{kept_method}
use Rattle.call_graph.proofs.follow.keep_methods.Given as goal

abbrev pub invariant-loop-number : goal.invariant-loop-number
invariant-loop-number l = IsResolved l.at.program.now l.at.hierarchy.now → l.out.items ≡ l.initial.out.items ++ flat_map (kept_method l.at.program.now) (take l.number-index l.numbers)
