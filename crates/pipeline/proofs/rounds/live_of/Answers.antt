use Rattle.pipeline.proofs.rounds.live_of.Goals as goal

pub returns : goal.returns
returns c = λ formed. c.live_by.ensures formed c.in_ok-graph.ensures
