use Rattle.pipeline.proofs.Analysed.{known, unknown}
use Rattle.pipeline.proofs.Passing.{kept_forms_passed}
use Rattle.pipeline.proofs.passes.fold_by.Goals as goal

pub returns-in-Some : goal.returns-in-Some
returns-in-Some c = λ graph outside found. c.fold_known.ensures graph outside
    (known outside c.args.admitted.now.methods.items c.args.traced.program c.args.facts.now c.in-Some.facts found c.in-Some.is)

pub returns-in-None : goal.returns-in-None
returns-in-None c = λ graph outside found. kept_forms_passed outside c.args.admitted.now.methods.items c.args.traced c.unchanged.result c.unchanged.ensures.traced c.unchanged.ensures.changes
    (unknown outside c.args.admitted.now.methods.items c.args.traced.program c.args.facts.now found c.in-None.is)
