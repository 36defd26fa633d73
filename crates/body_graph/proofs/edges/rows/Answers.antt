use Rattle.std.proofs.Common.{arith, ap, length}
use Rattle.body_graph.proofs.Links.{rows_all}
use Rattle.body_graph.proofs.edges.rows.Goals as goal

pub returns-clause-rows : goal.returns-clause-rows
returns-clause-rows c = rows_all c.args.body.now c.loop-region.rows.items c.loop-region.region-index (omega (arith, ap length c.as_slice-region-items.ensures)) (omega (arith, ap length c.as_slice-region-items.ensures)) c.loop-region.invariant.long c.loop-region.invariant.rows
