use Rattle.live_regs.proofs.Masks.{none_is, any_more, any_all}
use Rattle.compact.specs.Clashes.{is_hit}
use Rattle.compact.proofs.clash.hits_word.Goals as goal

pub loop-position-init : goal.loop-position-init
loop-position-init c = none_is

pub loop-position-preserved : goal.loop-position-preserved
loop-position-preserved c = any_more (λ s n. is_hit c.args.live.now c.args.insns.now s n) c.args.writers.now c.loop-position.position-index c.loop-position.word c.hit_word-word.result 0 c.loop-position-test.true c.loop-position.invariant c.hit_word-word.ensures

pub returns : goal.returns
returns c = any_all (λ s n. is_hit c.args.live.now c.args.insns.now s n) c.args.writers.now c.loop-position.position-index c.loop-position.word c.loop-position-test.false c.loop-position.invariant
