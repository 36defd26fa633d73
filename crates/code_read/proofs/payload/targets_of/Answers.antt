use Rattle.code_read.proofs.Entries.{goes_on}
use Rattle.code_read.proofs.payload.targets_of.Goals as goal

pub loop-left-preserved : goal.loop-left-preserved
loop-left-preserved c = goes_on _ _ _ _ _ _ _ _ c.loop-left.invariant c.loop-left-test.true c.in_ok-push_target.ensures c.rest_from-rest.ensures
