use Rattle.pipeline.proofs.inlined.inline_owned.Goals as goal

pub returns-clause-inlined : goal.returns-clause-inlined
returns-clause-inlined g c = c.inline_graphed.ensures.inlined

pub returns-clause-begun : goal.returns-clause-begun
returns-clause-begun g c = c.inline_graphed.ensures.begun
