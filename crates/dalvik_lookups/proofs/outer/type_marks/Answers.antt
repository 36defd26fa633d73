use Rattle.std.proofs.Common.{subst}
use Rattle.dalvik_lookups.specs.Reached.{AreBaseMarks}
use Rattle.dalvik_lookups.proofs.Marked.{types_marked}
use Rattle.dalvik_lookups.proofs.outer.type_marks.Goals as goal

pub returns : goal.returns
returns c = λ h.
    types_marked c.args.program.now c.args.names.now c.len.result c.args.numbers.now c.in_ok-marks.marks.items h c.len.ensures
    (subst (λ v. AreBaseMarks c.args.program.now v c.len.result c.args.numbers.now c.in_ok-marks.marks.items) c.as_slice-kinds.ensures.value c.in_ok-marks.ensures)
