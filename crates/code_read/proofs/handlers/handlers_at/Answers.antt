use Rattle.std.proofs.Common.{sym, arith}
use Rattle.std.proofs.lemmas.Grind.{common_steps}
use Rattle.code_read.proofs.Walks.{handles_go_on}
use Rattle.code_read.proofs.handlers.handlers_at.Goals as goal

pub loop-left-preserved : goal.loop-left-preserved
loop-left-preserved c = record {
  reads = handles_go_on _ _ _ _ _ _ _ _ _ _ c.loop-left.invariant.reads c.loop-left-test.true (sym c.in-Some.ensures.is) c.in_ok-push-in-Some.ensures.items;
  inside = grind (arith, common_steps);
}
