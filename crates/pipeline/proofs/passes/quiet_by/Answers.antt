use Rattle.pipeline.proofs.Analysed.{formed, known, unknown}
use Rattle.pipeline.proofs.Passing.{kept_quiet_passed}
use Rattle.pipeline.proofs.passes.quiet_by.Goals as goal

pub returns-in-Some : goal.returns-in-Some
returns-in-Some c = λ graph outside found. c.quiet_known.ensures graph outside
    (formed outside c.args.admitted.now.methods.items c.args.traced.program c.args.facts.now c.in-Some.facts found c.in-Some.is)
    (known outside c.args.admitted.now.methods.items c.args.traced.program c.args.facts.now c.in-Some.facts found c.in-Some.is
    (formed outside c.args.admitted.now.methods.items c.args.traced.program c.args.facts.now c.in-Some.facts found c.in-Some.is))

pub returns-in-None : goal.returns-in-None
returns-in-None c = λ graph outside found. kept_quiet_passed outside c.args.admitted.now.methods.items c.args.traced c.unchanged.result c.unchanged.ensures.traced c.unchanged.ensures.changes
    (unknown outside c.args.admitted.now.methods.items c.args.traced.program c.args.facts.now found c.in-None.is)
