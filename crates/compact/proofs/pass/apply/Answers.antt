use Rattle.std.proofs.Common.{Bool, List, length, subst}
use Rattle.compact.specs.Renamed.{AreEdited, IsCompactedClass}
use Rattle.compact.proofs.Measuring.{program_lower, program_falls}
use Rattle.compact.proofs.Programs.{program_compacted}
use Rattle.compact.proofs.pass.apply.Goals as goal

pub returns-clause-is : goal.returns-clause-is
returns-clause-is c =
    let P : List Bool → Type 0 = λ xs. AreEdited (IsCompactedClass c.as_slice.result.now xs) (length c.args.program.classes) c.in_ok-count.count c.args.program.classes c.compact_program.new.program.classes in
    program_compacted c.args.admitted.now.methods.items c.in_ok-widths.widths.items c.as_slice.result.now c.args.program c.compact_program.new.program c.in_ok-count.count c.in_ok-widths.ensures c.as_slice.ensures.value c.in_ok-count.ensures.rest (subst P c.as_slice-marks.ensures.value c.in_ok-count.ensures.classes)

pub returns-clause-most : goal.returns-clause-most
returns-clause-most c =
    let P : List Bool → Type 0 = λ xs. AreEdited (IsCompactedClass c.as_slice.result.now xs) (length c.args.program.classes) c.in_ok-count.count c.args.program.classes c.compact_program.new.program.classes in
    (program_lower c.args.admitted.now.methods.items c.args.program c.compact_program.new.program (program_compacted c.args.admitted.now.methods.items c.in_ok-widths.widths.items c.as_slice.result.now c.args.program c.compact_program.new.program c.in_ok-count.count c.in_ok-widths.ensures c.as_slice.ensures.value c.in_ok-count.ensures.rest (subst P c.as_slice-marks.ensures.value c.in_ok-count.ensures.classes))).most

pub returns-clause-less : goal.returns-clause-less
returns-clause-less c =
    let P : List Bool → Type 0 = λ xs. AreEdited (IsCompactedClass c.as_slice.result.now xs) (length c.args.program.classes) c.in_ok-count.count c.args.program.classes c.compact_program.new.program.classes in
    λ lt. program_falls c.args.admitted.now.methods.items c.args.program c.compact_program.new.program (program_compacted c.args.admitted.now.methods.items c.in_ok-widths.widths.items c.as_slice.result.now c.args.program c.compact_program.new.program c.in_ok-count.count c.in_ok-widths.ensures c.as_slice.ensures.value c.in_ok-count.ensures.rest (subst P c.as_slice-marks.ensures.value c.in_ok-count.ensures.classes)) (λ e. c.in_ok-count.ensures.classes.differs lt e)
