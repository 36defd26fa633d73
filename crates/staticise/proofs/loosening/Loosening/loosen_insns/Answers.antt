use Rattle.std.proofs.Common.{arith}
use Rattle.staticise.specs.Loosened.{insn_loosened}
use Rattle.staticise.proofs.Edited.{each_more}
use Rattle.staticise.proofs.loosening.Loosening.loosen_insns.Goals as goal

pub loop-insn-preserved : goal.loop-insn-preserved
loop-insn-preserved c = λ p t. each_more (insn_loosened p c.args.self.now.given.now) c.args.insns.now c.loop-insn.insns c.loop-insn.insn-index _ _ (omega arith) (c.loop-insn.invariant p t) (c.loosen_insn.ensures p t)
