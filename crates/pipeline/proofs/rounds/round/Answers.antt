use Rattle.pipeline.proofs.rounds.round.Goals as goal

pub returns : goal.returns
returns c = c.owned_passes.ensures c.in_ok-graph.ensures
