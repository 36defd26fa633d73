use Rattle.std.proofs.Common.{Bool, List, length, subst}
use Rattle.copy_prop.specs.Propagated.{AreEdited, IsPropagatedClass}
use Rattle.copy_prop.proofs.Programs.{program_counted, program_propagated}
use Rattle.copy_prop.proofs.pass.apply.Goals as goal

pub returns-clause-is : goal.returns-clause-is
returns-clause-is c =
    let P : List Bool → Type 0 = λ xs. AreEdited (IsPropagatedClass c.as_slice.result.now xs) (length c.args.program.classes) c.in_ok-count.count c.args.program.classes c.propagate_program.new.program.classes in
    program_propagated c.args.admitted.now.methods.items c.in_ok-widths.widths.items c.as_slice.result.now c.args.program c.propagate_program.new.program c.in_ok-count.count c.in_ok-widths.ensures c.as_slice.ensures.value c.in_ok-count.ensures.rest (subst P c.as_slice-marks.ensures.value c.in_ok-count.ensures.classes)
