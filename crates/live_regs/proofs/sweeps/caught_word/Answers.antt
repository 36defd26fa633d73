use Rattle.live_regs.proofs.Masks.{none_is, caught_more, any_all}
use Rattle.live_regs.specs.Words.{has, word_at}
use Rattle.live_regs.proofs.sweeps.caught_word.Goals as goal

pub loop-handler-init : goal.loop-handler-init
loop-handler-init c = none_is

pub loop-handler-preserved : goal.loop-handler-preserved
loop-handler-preserved c = caught_more c.args.words.now c.args.handlers.now c.loop-handler.handler-index c.loop-handler.word c.word_at-word.result _ c.loop-handler-test.true c.loop-handler.invariant c.word_at-word.ensures

pub returns : goal.returns
returns c = any_all (λ r h. has (word_at c.args.words.now h.position) r) c.args.handlers.now c.loop-handler.handler-index c.loop-handler.word c.loop-handler-test.false c.loop-handler.invariant
