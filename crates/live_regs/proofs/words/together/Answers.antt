use Rattle.live_regs.proofs.Masks.{none_is, together_more, any_all}
use Rattle.live_regs.specs.Words.{has, word_at}
use Rattle.live_regs.proofs.words.together.Goals as goal

pub loop-place-init : goal.loop-place-init
loop-place-init c = none_is

pub loop-place-preserved : goal.loop-place-preserved
loop-place-preserved c = together_more c.args.words.now c.args.places.now c.loop-place.place-index c.loop-place.word c.word_at-word.result c.loop-place-test.true c.loop-place.invariant c.word_at-word.ensures

pub returns : goal.returns
returns c = any_all (λ r n. has (word_at c.args.words.now n) r) c.args.places.now c.loop-place.place-index c.loop-place.word c.loop-place-test.false c.loop-place.invariant
