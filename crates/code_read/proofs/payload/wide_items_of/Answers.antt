use Rattle.code_read.proofs.Entries.{goes_on}
use Rattle.code_read.proofs.payload.wide_items_of.Goals as goal

pub loop-left-preserved : goal.loop-left-preserved
loop-left-preserved c =
    let items = rw c.item_in.ensures at c.in_ok-push.ensures.items in
    goes_on _ _ _ _ _ _ _ _ c.loop-left.invariant c.loop-left-test.true items c.rest_from-rest.ensures
