use Rattle.walk_marks.proofs.Turning.{adds_none, adds_more, adds_all}
use Rattle.walk_marks.proofs.turn.add_edges.Goals as goal

pub loop-from-init : goal.loop-from-init
loop-from-init c = adds_none c.args.to c.args.rows.now.items

pub loop-from-preserved : goal.loop-from-preserved
loop-from-preserved c = adds_more c.args.row.now c.args.to c.loop-from.from-index c.args.rows.now.items c.loop-from.rows.items c.add_edge.new.rows.items c.loop-from-test.true c.loop-from.invariant c.in_ok-add_edge.ensures

pub returns : goal.returns
returns c = adds_all c.args.row.now c.args.to c.loop-from.from-index c.args.rows.now.items c.loop-from.rows.items c.loop-from-test.false c.loop-from.invariant
