use Rattle.walk_marks.proofs.Marking.{marks_none, none_follows, row_marks, row_follows, row_followed}
use Rattle.walk_marks.proofs.marks.follow.Goals as goal

pub loop-to-init : goal.loop-to-init
loop-to-init g c = record { marks = marks_none _ c.args.marks.now.items c.args.waiting.now.items; follows = none_follows (g.G.Gate.lets c.args.gate.now) c.args.from c.args.marks.now.items }

pub loop-to-preserved : goal.loop-to-preserved
loop-to-preserved g c = record {
  marks = row_marks c.args.row.now (g.G.Gate.lets c.args.gate.now) c.args.from c.loop-to.to-index c.args.marks.now.items c.loop-to.marks.items c.mark_beyond.new.marks.items c.args.waiting.now.items c.loop-to.waiting.items c.mark_beyond.new.waiting.items
      c.loop-to-test.true c.loop-to.invariant.marks c.in_ok-mark_beyond.ensures.marks;
  follows = row_follows c.args.row.now (g.G.Gate.lets c.args.gate.now) c.args.from c.loop-to.to-index c.loop-to.marks.items c.mark_beyond.new.marks.items c.loop-to.waiting.items c.mark_beyond.new.waiting.items
      c.loop-to-test.true c.loop-to.invariant.follows c.in_ok-mark_beyond.ensures.marks c.in_ok-mark_beyond.ensures.on;
}

pub returns : goal.returns
returns g c = record { marks = c.loop-to.invariant.marks; follows = row_followed c.args.row.now (g.G.Gate.lets c.args.gate.now) c.args.from c.loop-to.to-index c.loop-to.marks.items c.loop-to-test.false c.loop-to.invariant.follows }
