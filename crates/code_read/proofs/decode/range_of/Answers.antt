use Rattle.code_read.proofs.Entries.{registers_go_on}
use Rattle.code_read.proofs.decode.range_of.Goals as goal

pub loop-place-preserved : goal.loop-place-preserved
loop-place-preserved c = registers_go_on _ _ _ _ _ _ c.loop-place.invariant c.loop-place-test.true c.in_ok-push.ensures.items
