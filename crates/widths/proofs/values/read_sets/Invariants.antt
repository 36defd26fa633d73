use Rattle.std.proofs.Common.{take}
use Rattle.std.specs.List.{AllByRecursion}
use Rattle.widths.specs.Values.{MarksInWidth}
use Rattle.widths.proofs.values.read_sets.Given as goal

abbrev pub invariant-loop-marks : goal.invariant-loop-marks
invariant-loop-marks l = AllByRecursion MarksInWidth (take l.marks-index l.sets)
