use Rattle.dex_write.proofs.OrderLemmas.{progress_more, progress_drained}
use Rattle.dex_write.proofs.class_order.drain.Goals as goal

pub returns-in_default : goal.returns-in_default
returns-in_default c = progress_drained c.args.program.now c.args.search.now c.loop.search c.pop_visit.new.search c.loop.invariant c.in_default.ensures.none c.in_default.ensures.way c.pop_visit.ensures.begun c.pop_visit.ensures.order

pub loop-preserved : goal.loop-preserved
loop-preserved c = progress_more c.args.program.now c.args.search.now c.loop.search c.pop_visit.new.search c.step.new.search c.in-Some.visit c.loop.invariant c.in-Some.ensures.way c.pop_visit.ensures.begun c.pop_visit.ensures.order c.in_ok-step.ensures
