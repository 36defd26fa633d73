use Rattle.premises.specs.Numbers.{HasWords}
use Rattle.premises.proofs.Reading.{more, whole}
use Rattle.premises.proofs.numbers.read_insns.Goals as goal

pub loop-insn-preserved : goal.loop-insn-preserved
loop-insn-preserved c = more HasWords c.args.insns.now c.loop-insn.insn-index c.insn-item.result c.loop-insn-test.true c.insn-item.is c.read_insn.ensures c.loop-insn.invariant

pub returns : goal.returns
returns c = whole HasWords c.args.insns.now c.loop-insn.insn-index c.loop-insn-test.false c.loop-insn.invariant
