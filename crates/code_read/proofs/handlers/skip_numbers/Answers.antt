use Rattle.std.proofs.Common.{sym}
use Rattle.code_read.proofs.Walks.{skip_on}
use Rattle.code_read.proofs.handlers.skip_numbers.Goals as goal

pub loop-left-preserved : goal.loop-left-preserved
loop-left-preserved c = skip_on _ _ _ _ _ c.loop-left.invariant c.loop-left-test.true (sym c.in-Some.ensures.is)
