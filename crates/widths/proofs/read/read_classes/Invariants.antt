use Rattle.std.proofs.Common.{take}
use Rattle.std.specs.List.{AllByRecursion}
use Rattle.widths.specs.Widths.{ClassInWidth}
use Rattle.widths.proofs.read.read_classes.Given as goal

abbrev pub invariant-loop-class : goal.invariant-loop-class
invariant-loop-class l = AllByRecursion ClassInWidth (take l.class-index l.classes)
