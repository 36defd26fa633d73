use Rattle.pipeline.proofs.Inlines.{none_begun}
use Rattle.pipeline.proofs.Turns.{on_err}
use Rattle.pipeline.proofs.inlined.inline_by.Goals as goal

pub returns-in_err-facts-clause-begun : goal.returns-in_err-facts-clause-begun
returns-in_err-facts-clause-begun g c = λ formed graph. on_err _ (none_begun c.args.outside.now c.args.admitted.now.methods.items c.args.program _ _)

pub returns-clause-inlined : goal.returns-clause-inlined
returns-clause-inlined g c = λ formed graph. c.inline_known.ensures.inlined formed graph (c.in_ok-facts.ensures formed graph)

pub returns-clause-begun : goal.returns-clause-begun
returns-clause-begun g c = λ formed graph. c.inline_known.ensures.begun formed graph (c.in_ok-facts.ensures formed graph)
