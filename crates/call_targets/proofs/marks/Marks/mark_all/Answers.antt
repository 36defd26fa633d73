use Rattle.std.proofs.Common.{arith}
use Rattle.call_targets.proofs.Growth.{keeps_then}
use Rattle.call_targets.proofs.Climbing.{marked_at, marked_all, waits_at, waits_all}
use Rattle.call_targets.proofs.marks.Marks.mark_all.Goals as goal

pub loop-number-preserved : goal.loop-number-preserved
loop-number-preserved c = record {
  swells = (omega (arith, c.loop-number.invariant.swells.0, c.in_ok-mark.ensures.swells.0), omega (arith, c.loop-number.invariant.swells.1, c.in_ok-mark.ensures.swells.1));
  keeps = keeps_then c.args.self.now c.loop-number.self c.mark.new.self c.loop-number.invariant.keeps c.in_ok-mark.ensures.keeps;
  from = waits_at c.args.self.now c.loop-number.self c.mark.new.self c.args.numbers.now c.loop-number.number-index _ c.loop-number.invariant.from c.loop-number-test.true c.in_ok-mark.ensures.from c.in_ok-mark.ensures.swells.0;
  marked = marked_at c.loop-number.self c.mark.new.self c.args.numbers.now c.loop-number.number-index _ c.in_ok-mark.ensures.keeps c.loop-number.invariant.marked c.loop-number-test.true c.in_ok-mark.ensures.marked;
}

pub returns-clause-marked : goal.returns-clause-marked
returns-clause-marked c = marked_all c.loop-number.self c.args.numbers.now c.loop-number.number-index c.loop-number-test.false c.loop-number.invariant.marked

pub returns-clause-from : goal.returns-clause-from
returns-clause-from c = waits_all c.args.self.now c.loop-number.self c.args.numbers.now c.loop-number.number-index c.loop-number.invariant.from c.loop-number-test.false
