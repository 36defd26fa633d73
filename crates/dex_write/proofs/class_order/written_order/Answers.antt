use Rattle.std.proofs.Common.{sym, subst}
use Rattle.dex_write.specs.Order.{IsOrder}
use Rattle.dex_write.proofs.OrderLemmas.{order_step, order_end, only_order}
use Rattle.dex_write.proofs.class_order.written_order.Goals as goal

pub loop-class-preserved : goal.loop-class-preserved
loop-class-preserved c = order_step c.args.program.now c.loop-class.class c.loop-class.search c.ask.new.search c.loop-class.invariant (rw c.len-count.ensures at c.loop-class-test.true) c.in_ok-ask.ensures

pub returns-clause-is : goal.returns-clause-is
returns-clause-is c = subst (IsOrder c.args.program.now) (sym c.into_vec.ensures) (order_end c.args.program.now c.loop-class.class c.loop-class.search c.loop-class.invariant (rw c.len-count.ensures at c.loop-class-test.false))

pub returns-clause-only : goal.returns-clause-only
returns-clause-only c = only_order c.args.program.now c.into_vec.result.items (subst (IsOrder c.args.program.now) (sym c.into_vec.ensures) (order_end c.args.program.now c.loop-class.class c.loop-class.search c.loop-class.invariant (rw c.len-count.ensures at c.loop-class-test.false)))
