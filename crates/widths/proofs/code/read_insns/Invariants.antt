use Rattle.std.proofs.Common.{take}
use Rattle.std.specs.List.{AllByRecursion}
use Rattle.widths.specs.Code.{InWidth}
use Rattle.widths.proofs.code.read_insns.Given as goal

abbrev pub invariant-loop-insn : goal.invariant-loop-insn
invariant-loop-insn l = AllByRecursion InWidth (take l.insn-index l.insns)
