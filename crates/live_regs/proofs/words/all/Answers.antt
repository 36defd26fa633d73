use Rattle.std.proofs.Common.{nat_eq}
use Rattle.live_regs.proofs.Masks.{none_is, call_more, any_all}
use Rattle.live_regs.proofs.words.all.Goals as goal

pub loop-register-init : goal.loop-register-init
loop-register-init c = none_is

pub loop-register-preserved : goal.loop-register-preserved
loop-register-preserved c = call_more c.args.registers.now c.loop-register.register-index c.loop-register.word c.operand-word.result c.loop-register-test.true c.loop-register.invariant c.operand-word.ensures

pub returns : goal.returns
returns c = any_all (λ r x. nat_eq x r) c.args.registers.now c.loop-register.register-index c.loop-register.word c.loop-register-test.false c.loop-register.invariant
