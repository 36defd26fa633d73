use Rattle.dex_write.proofs.CodeLemmas.{parts_drop, text_step}
use Rattle.dex_write.proofs.codes.all_codes.Goals as goal

pub loop-ordered-preserved : goal.loop-ordered-preserved
loop-ordered-preserved c = text_step c.loop-ordered.ends.code c.loop-ordered.ends.lines c.in_ok-ends.ends.code c.in_ok-ends.ends.lines _ c.ordered-item.result.methods _ c.loop-ordered.out.items c.push_codes.new.out.items _ (parts_drop c.args.order.now c.loop-ordered.ordered-index c.ordered-item.result c.loop-ordered-test.true c.ordered-item.is)
    (rw c.as_slice.ensures at c.in_ok-ends.ensures.code) (rw c.as_slice.ensures at c.in_ok-ends.ensures.lines) (rw c.as_slice.ensures at c.in_ok-ends.ensures.text) c.loop-ordered.invariant
