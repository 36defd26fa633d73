use Rattle.dex_write.specs.Plans.{plan_in}
use Rattle.dex_write.specs.Sets.{marks_of}
use Rattle.dex_write.proofs.MarkLemmas.{added_map}
use Rattle.dex_write.proofs.marks.mark_bytes.Goals as goal

pub loop-ordered-preserved : goal.loop-ordered-preserved
loop-ordered-preserved c = added_map c.args.numbers.now plan_in (marks_of c.args.numbers.now) c.args.order.now c.loop-ordered.ordered-index c.ordered-item.result _ _ _ _ _ _ c.loop-ordered-test.true c.ordered-item.is c.loop-ordered.invariant c.in_ok-push_class.ensures
