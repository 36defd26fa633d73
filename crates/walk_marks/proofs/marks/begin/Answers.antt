use Rattle.walk_marks.proofs.Marking.{marks_none, seeds_none, seeds_mark, seeds_on, seeds_all}
use Rattle.walk_marks.proofs.marks.begin.Goals as goal

pub loop-seed-init : goal.loop-seed-init
loop-seed-init c = record { marks = marks_none _ c.args.marks.now.items c.args.waiting.now.items; on = seeds_none c.args.marks.now.items }

pub loop-seed-preserved : goal.loop-seed-preserved
loop-seed-preserved c = record {
  marks = seeds_mark c.args.seeds.now c.loop-seed.seed-index c.args.marks.now.items c.loop-seed.marks.items c.mark.new.marks.items c.args.waiting.now.items c.loop-seed.waiting.items c.mark.new.waiting.items c.loop-seed-test.true c.loop-seed.invariant.marks c.in_ok-mark.ensures.marks;
  on = seeds_on c.args.seeds.now c.loop-seed.seed-index c.loop-seed.marks.items c.mark.new.marks.items c.loop-seed.waiting.items c.mark.new.waiting.items c.loop-seed-test.true c.loop-seed.invariant.on c.in_ok-mark.ensures.marks c.in_ok-mark.ensures.on;
}

pub returns : goal.returns
returns c = record { marks = c.loop-seed.invariant.marks; on = seeds_all c.args.seeds.now c.loop-seed.seed-index c.loop-seed.marks.items c.loop-seed-test.false c.loop-seed.invariant.on }
