use Rattle.std.proofs.Common.{◌∙◌, refl}
use Rattle.dalvik_lookups.proofs.Climbing.{unmarked_more, unmarked_all, unmarked_none}
use Rattle.dalvik_lookups.proofs.marks.unmark_all.Goals as goal

pub loop-number-init : goal.loop-number-init
loop-number-init c = record { size = refl; unmarked = unmarked_none c.args.marks.now c.args.numbers.now }

pub loop-number-preserved : goal.loop-number-preserved
loop-number-preserved c = record {
  size = c.unmark.ensures.size ∙ c.loop-number.invariant.size;
  unmarked = unmarked_more c.args.marks.now c.loop-number.marks c.unmark.new.marks c.args.numbers.now c.loop-number.number-index _ c.loop-number.invariant.unmarked c.loop-number-test.true c.unmark.ensures.unmarked;
}

pub returns-clause-unmarked : goal.returns-clause-unmarked
returns-clause-unmarked c = unmarked_all c.args.marks.now c.loop-number.marks c.args.numbers.now c.loop-number.number-index c.loop-number-test.false c.loop-number.invariant.unmarked
