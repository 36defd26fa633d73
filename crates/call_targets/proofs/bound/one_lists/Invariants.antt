use Rattle.std.proofs.Common.{◌≡◌, false, take}
use Rattle.std.specs.List.{list_any}
use Rattle.hierarchy.specs.Shapes.{IsOf}
use Rattle.call_graph.specs.Supers.{lists_at}
use Rattle.call_targets.proofs.bound.one_lists.Given as goal

abbrev pub invariant-loop-one : goal.invariant-loop-one
invariant-loop-one l = IsOf l.at.program.now l.at.hierarchy.now → list_any (lists_at l.at.program.now l.kind) (take l.one-index l.kinds) ≡ false
