use Rattle.pipeline.proofs.Inlines.{inlines, begins}
use Rattle.pipeline.proofs.Turns.{on_err}
use Rattle.pipeline.proofs.inlined.inline_known.Goals as goal

pub returns-in_err-changed-clause-begun : goal.returns-in_err-changed-clause-begun
returns-in_err-changed-clause-begun g c = λ formed graph known.
    on_err _ (begins c.args.outside.now c.args.admitted.now.methods.items c.args.program c.args.hierarchy.now c.args.facts.now _ _ _ _ graph known c.in_err-changed.ensures.begun)

pub returns-clause-inlined : goal.returns-clause-inlined
returns-clause-inlined g c = λ formed graph known.
    inlines c.args.outside.now c.args.admitted.now.methods.items c.args.program c.args.hierarchy.now c.args.facts.now c.in_ok-changed.changed _ _ _ _ graph known
    c.in_ok-changed.ensures.inlined (c.in_ok-changed.ensures.formed formed) c.in_ok-changed.ensures.typed
