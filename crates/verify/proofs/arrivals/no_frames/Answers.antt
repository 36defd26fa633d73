use Rattle.verify.proofs.Arrived.{none_on}
use Rattle.verify.proofs.arrivals.no_frames.Goals as goal

pub loop-preserved : goal.loop-preserved
loop-preserved c = none_on c.loop.frames.items _ c.loop.counter c.loop.invariant c.in_ok-push.ensures.items
