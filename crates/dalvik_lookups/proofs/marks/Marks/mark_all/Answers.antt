use Rattle.std.proofs.Common.{◌+◌}
use Rattle.dalvik_lookups.proofs.Climbing.{grow_none, grow_more, grow_all, grow_part, marked_more, marked_all, nothing_yet}
use Rattle.dalvik_lookups.proofs.marks.Marks.mark_all.Goals as goal

pub loop-number-init : goal.loop-number-init
loop-number-init c = record { grow = grow_none c.args.self.now _; marked = nothing_yet c.args.self.now c.args.numbers.now }

pub loop-number-preserved : goal.loop-number-preserved
loop-number-preserved c = record {
  grow = grow_more c.args.self.now c.loop-number.self c.mark.new.self c.args.numbers.now c.loop-number.number-index 0 c.loop-number.invariant.grow c.mark.ensures.grow c.loop-number-test.true;
  marked = marked_more c.loop-number.self c.mark.new.self c.args.numbers.now c.loop-number.number-index 0 c.mark.ensures.grow.reached c.loop-number.invariant.marked c.loop-number-test.true c.in_ok-mark.ensures.marked;
}

pub returns-clause-grow : goal.returns-clause-grow
returns-clause-grow c = grow_all c.args.self.now c.loop-number.self c.args.numbers.now c.loop-number.number-index c.loop-number.invariant.grow c.loop-number-test.false

pub returns-clause-marked : goal.returns-clause-marked
returns-clause-marked c = marked_all c.loop-number.self c.args.numbers.now c.loop-number.number-index c.loop-number-test.false c.loop-number.invariant.marked

pub returns-in_err-mark-clause-grow : goal.returns-in_err-mark-clause-grow
returns-in_err-mark-clause-grow c =
    grow_part c.args.self.now c.mark.new.self c.args.numbers.now (c.loop-number.number-index + 1)
    (grow_more c.args.self.now c.loop-number.self c.mark.new.self c.args.numbers.now c.loop-number.number-index 0 c.loop-number.invariant.grow c.mark.ensures.grow c.loop-number-test.true)
