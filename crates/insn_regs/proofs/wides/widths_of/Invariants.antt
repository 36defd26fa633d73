use Rattle.std.proofs.Common.{◌≡◌, ◌++◌, map, drop}
use Rattle.insn_regs.specs.Wides.{widths_in}
use Rattle.insn_regs.proofs.wides.widths_of.Given as goal

abbrev pub invariant-loop-method : goal.invariant-loop-method
invariant-loop-method l = l.widths.items ++ map (widths_in l.program) (drop l.method-index l.method-items) ≡ map (widths_in l.program) l.method-items
