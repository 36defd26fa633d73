use Rattle.std.proofs.Common.{take}
use Rattle.std.specs.List.{AllByRecursion}
use Rattle.widths.specs.Widths.{MethodInWidth}
use Rattle.widths.proofs.read.read_methods.Given as goal

abbrev pub invariant-loop-method : goal.invariant-loop-method
invariant-loop-method l = AllByRecursion MethodInWidth (take l.method-index l.methods)
