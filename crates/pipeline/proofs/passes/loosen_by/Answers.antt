use Rattle.pipeline.proofs.Analysed.{formed, known, unknown}
use Rattle.pipeline.proofs.Passing.{kept_loose_passed}
use Rattle.pipeline.proofs.passes.loosen_by.Goals as goal

pub returns-in-Some : goal.returns-in-Some
returns-in-Some c = λ graph found. c.loosen_known.ensures graph
    (formed c.args.outside.now c.args.admitted.now.methods.items c.args.traced.program c.args.facts.now c.in-Some.facts found c.in-Some.is)
    (known c.args.outside.now c.args.admitted.now.methods.items c.args.traced.program c.args.facts.now c.in-Some.facts found c.in-Some.is
    (formed c.args.outside.now c.args.admitted.now.methods.items c.args.traced.program c.args.facts.now c.in-Some.facts found c.in-Some.is))

pub returns-in-None : goal.returns-in-None
returns-in-None c = λ graph found. kept_loose_passed c.args.outside.now c.args.admitted.now.methods.items c.args.traced c.unchanged.result c.unchanged.ensures.traced c.unchanged.ensures.changes
    (unknown c.args.outside.now c.args.admitted.now.methods.items c.args.traced.program c.args.facts.now found c.in-None.is)
