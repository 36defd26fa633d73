use Rattle.dex_write.proofs.OrderLemmas.{asked_ok}
use Rattle.dex_write.proofs.class_order.ask.Goals as goal

pub returns : goal.returns
returns c = asked_ok c.args.program.now c.args.class c.drain.result c.args.search.now c.begin.new.search c.drain.new.search c.requires.empty c.in_ok-begin.ensures c.drain.ensures
