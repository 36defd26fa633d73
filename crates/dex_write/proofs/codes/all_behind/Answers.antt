use Rattle.dex_write.proofs.CodeLemmas.{parts_drop, behind_step}
use Rattle.dex_write.proofs.codes.all_behind.Goals as goal

pub loop-ordered-preserved : goal.loop-ordered-preserved
loop-ordered-preserved c = behind_step c.loop-ordered.next c.in_ok-next.next _ c.ordered-item.result.methods _ _ (parts_drop c.args.order.now c.loop-ordered.ordered-index c.ordered-item.result c.loop-ordered-test.true c.ordered-item.is) (rw c.as_slice.ensures at c.in_ok-next.ensures) c.loop-ordered.invariant
