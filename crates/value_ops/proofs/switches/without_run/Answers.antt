use Rattle.value_ops.proofs.Keys.{next_word}
use Rattle.value_ops.proofs.switches.without_run.Goals as goal

pub loop-place-preserved : goal.loop-place-preserved
loop-place-preserved c = next_word c.args.start c.loop-place.place c.args.value c.loop-place.left c.without-left.result c.loop-place.invariant c.without-left.ensures
