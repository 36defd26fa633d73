use Rattle.dalvik_lookups.proofs.Marked.{marks_none, marks_step, marks_all}
use Rattle.dalvik_lookups.proofs.outer.mark_all.Goals as goal

pub loop-number-init : goal.loop-number-init
loop-number-init c = record { marks = marks_none _ }

pub loop-number-preserved : goal.loop-number-preserved
loop-number-preserved c = record { marks = marks_step _ _ _ c.args.numbers.now c.loop-number.number-index c.loop-number-test.true c.loop-number.invariant.marks c.mark.ensures }

pub returns : goal.returns
returns c = marks_all _ _ c.args.numbers.now c.loop-number.number-index c.loop-number-test.false c.loop-number.invariant.marks
