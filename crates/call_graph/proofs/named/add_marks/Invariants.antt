use Rattle.std.proofs.Common.{◌≡◌, ◌++◌, take}
use Rattle.std.specs.List.{flat_map}
use Rattle.call_graph.specs.Names.{mark_names}
use Rattle.call_graph.proofs.named.add_marks.Given as goal

abbrev pub invariant-loop-mark : goal.invariant-loop-mark
invariant-loop-mark l = l.out.items ≡ l.initial.out.items ++ flat_map mark_names (take l.mark-index l.marks)
