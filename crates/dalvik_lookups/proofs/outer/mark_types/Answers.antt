use Rattle.dalvik_lookups.proofs.Marked.{bases_none, bases_step, bases_all}
use Rattle.dalvik_lookups.proofs.outer.mark_types.Goals as goal

pub loop-number-init : goal.loop-number-init
loop-number-init c = record { marks = λ count e. bases_none c.args.program.now c.args.kinds.now count c.args.marks.now e }

pub loop-number-preserved : goal.loop-number-preserved
loop-number-preserved c = record { marks = λ count e. bases_step c.args.program.now c.args.kinds.now count _ _ c.args.numbers.now c.loop-number.number-index c.loop-number-test.true (c.loop-number.invariant.marks count e) c.mark_type.ensures }

pub returns : goal.returns
returns c = λ count e. bases_all c.args.program.now c.args.kinds.now count _ c.args.numbers.now c.loop-number.number-index c.loop-number-test.false (c.loop-number.invariant.marks count e)
