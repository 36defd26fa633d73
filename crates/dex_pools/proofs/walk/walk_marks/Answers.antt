use Rattle.dex_pools.specs.Used.{mark_names}
use Rattle.dex_pools.proofs.Names.{walks_on}
use Rattle.dex_pools.proofs.walk.walk_marks.Goals as goal

pub loop-mark-preserved : goal.loop-mark-preserved
loop-mark-preserved c =
    walks_on mark_names c.args.used.now c.loop-mark.used c.walk_note.new.used c.args.marks.now c.loop-mark.mark-index c.mark-item.result c.loop-mark.invariant c.loop-mark-test.true c.mark-item.is c.walk_note.ensures
