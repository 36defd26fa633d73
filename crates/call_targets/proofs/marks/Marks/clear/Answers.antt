use Rattle.std.proofs.Common.{◌∙◌}
use Rattle.call_targets.proofs.Climbing.{unmarked_at, unmarked_all}
use Rattle.call_targets.proofs.marks.Marks.clear.Goals as goal

pub loop-number-preserved : goal.loop-number-preserved
loop-number-preserved c = record {
  size = c.unmark.ensures.size ∙ c.loop-number.invariant.size;
  idle = c.unmark.ensures.idle ∙ c.loop-number.invariant.idle;
  unmarked = unmarked_at c.args.self.now c.loop-number.self c.unmark.new.self c.args.numbers.now c.loop-number.number-index _ c.loop-number.invariant.unmarked c.loop-number-test.true c.unmark.ensures;
}

pub returns-clause-unmarked : goal.returns-clause-unmarked
returns-clause-unmarked c = unmarked_all c.args.self.now c.loop-number.self c.args.numbers.now c.loop-number.number-index c.loop-number-test.false c.loop-number.invariant.unmarked
