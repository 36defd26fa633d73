use Rattle.quiet_methods.proofs.ranks.settle.Goals as goal
use Rattle.quiet_methods.proofs.Ranking.{settled}

-- src/ranks.rt:86:1
pub returns : goal.returns
returns c = settled c.args.nodes.now c.loop-open.ranks.given.items c.loop-open.ranks.next c.loop-open.invariant.ranks (c.loop-open.invariant.closed c.loop-open-test.false)
