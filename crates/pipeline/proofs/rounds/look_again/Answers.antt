use Rattle.pipeline.proofs.rounds.look_again.Goals as goal

pub returns : goal.returns
returns c = c.changed_passes.ensures c.in_ok-renew_graph.ensures
