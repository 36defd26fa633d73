use Rattle.code_read.proofs.Entries.{bytes_go_on}
use Rattle.code_read.proofs.payload.bytes_of.Goals as goal

pub loop-left-preserved : goal.loop-left-preserved
loop-left-preserved c =
    let one = rw c.from.ensures at c.in_ok-push.ensures.items in
    let two = rw c.from-in-loop-left.ensures at c.in_ok-push-2.ensures.items in
    bytes_go_on _ _ _ _ _ _ _ _ c.loop-left.invariant c.loop-left-test.true c.unit_at-unit.ensures one two c.rest_from-rest.ensures
