use Rattle.flow_cfg.proofs.Nested.{single_more, single_ends}
use Rattle.flow_cfg.proofs.ends.single_ends.Goals as goal

pub loop-preserved : goal.loop-preserved
loop-preserved c = rw c.in_ok-push.ensures.items (single_more c.loop.ends.items c.loop.end c.loop.index c.loop.invariant)

pub returns-clause-ends : goal.returns-clause-ends
returns-clause-ends c = single_ends c.loop.ends.items c.loop.end c.loop.index c.loop.invariant
