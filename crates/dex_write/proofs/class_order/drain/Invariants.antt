use Rattle.dex_write.proofs.OrderLemmas.{Progress}
use Rattle.dex_write.proofs.class_order.drain.Given as goal

abbrev pub invariant-loop : goal.invariant-loop
invariant-loop l = Progress l.program l.fn.search l.search
