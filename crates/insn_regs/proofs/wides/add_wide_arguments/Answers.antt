use Rattle.std.proofs.Common.{false, refl, arith}
use Rattle.insn_regs.proofs.Arguments.{wide_more}
use Rattle.insn_regs.proofs.wides.add_wide_arguments.Goals as goal

pub loop-wide-preserved : goal.loop-wide-preserved
loop-wide-preserved c = wide_more c.args.widths.now c.loop-wide.wide-index false _ c.loop-wide.rest.now _ c.loop-wide.found.items _ _ (omega arith) refl c.in_ok-rest.ensures.found c.in_ok-rest.ensures.rest c.loop-wide.invariant
