use Rattle.pipeline.proofs.Inlines.{none_begun}
use Rattle.pipeline.proofs.Turns.{on_err}
use Rattle.pipeline.proofs.inlined.inline_sites.Goals as goal

pub returns-in_err-graph-clause-begun : goal.returns-in_err-graph-clause-begun
returns-in_err-graph-clause-begun g c = λ formed. on_err _ (none_begun c.args.outside.now c.args.admitted.now.methods.items c.args.program _ _)

pub returns-clause-inlined : goal.returns-clause-inlined
returns-clause-inlined g c = λ formed. c.inline_owned.ensures.inlined formed c.in_ok-graph.ensures

pub returns-clause-begun : goal.returns-clause-begun
returns-clause-begun g c = λ formed. c.inline_owned.ensures.begun formed c.in_ok-graph.ensures
