use Rattle.std.proofs.Common.{Bool, List, length, subst}
use Rattle.program_model.specs.declared.program.Class.{Class}
use Rattle.copy_prop.specs.Propagated.{AreSettled, HasSome, HasStaleClass, IsPropagatedClass}
use Rattle.copy_prop.proofs.Settled.{program_unchanged, program_stale}
use Rattle.copy_prop.proofs.looking.has_stale.Goals as goal

pub returns-clause-none : goal.returns-clause-none
returns-clause-none c =
    let P : List Bool → Type 0 = λ xs. AreSettled (IsPropagatedClass c.as_slice.result.now xs) (length c.args.program.now.classes) c.args.program.now.classes in
    let Q : List Class → Type 0 = λ cs. AreSettled (IsPropagatedClass c.as_slice.result.now c.as_slice-marks.result.now) (length cs) cs in
    λ e. program_unchanged c.args.admitted.now.methods.items c.in_ok-widths.widths.items c.as_slice.result.now c.args.program.now c.in_ok-widths.ensures c.as_slice.ensures.value
    (subst P c.as_slice-marks.ensures.value (subst Q c.as_slice-classes.ensures (c.in_ok-some.ensures.none e)))

pub returns-clause-some : goal.returns-clause-some
returns-clause-some c =
    let P : List Bool → Type 0 = λ xs. HasSome (HasStaleClass c.as_slice.result.now xs) c.args.program.now.classes in
    let Q : List Class → Type 0 = λ cs. HasSome (HasStaleClass c.as_slice.result.now c.as_slice-marks.result.now) cs in
    λ e. program_stale c.args.admitted.now.methods.items c.in_ok-widths.widths.items c.as_slice.result.now c.args.program.now c.in_ok-widths.ensures c.as_slice.ensures.value
    (subst P c.as_slice-marks.ensures.value (subst Q c.as_slice-classes.ensures (c.in_ok-some.ensures.some e)))
