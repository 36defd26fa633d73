use Rattle.std.proofs.Common.{take}
use Rattle.std.specs.List.{AllByRecursion}
use Rattle.widths.specs.Values.{MarkInWidth}
use Rattle.widths.proofs.values.read_marks.Given as goal

abbrev pub invariant-loop-mark : goal.invariant-loop-mark
invariant-loop-mark l = AllByRecursion MarkInWidth (take l.mark-index l.marks)
