use Rattle.dex_write.proofs.OrderLemmas.{OrderSoFar}
use Rattle.dex_write.proofs.class_order.written_order.Given as goal

abbrev pub invariant-loop-class : goal.invariant-loop-class
invariant-loop-class l = OrderSoFar l.program l.class l.search
