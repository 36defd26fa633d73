use Rattle.redex_outside.proofs.Known.{consumes_more}
use Rattle.redex_outside.proofs.edge.read_all.Goals as goal

pub loop-filled-preserved : goal.loop-filled-preserved
loop-filled-preserved g c =
    let read = c.in-Ok.ensures in
    let (within, most, before) = c.loop-filled.invariant in
    (read.fits, read.most, consumes_more _ _ _ _ _ _ _ read.front before read.bytes)
