use Rattle.std.proofs.Common.{◌≡◌, ◌++◌, drop}
use Rattle.insn_regs.specs.Wides.{wide_arguments}
use Rattle.insn_regs.proofs.wides.add_wide_arguments.Given as goal

abbrev pub invariant-loop-wide : goal.invariant-loop-wide
invariant-loop-wide l = l.found.items ++ wide_arguments (drop l.wide-index l.widths) l.rest ≡ l.initial.found.items ++ wide_arguments l.widths l.initial.rest
