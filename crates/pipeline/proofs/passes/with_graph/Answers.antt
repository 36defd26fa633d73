use Rattle.pipeline.proofs.passes.with_graph.Goals as goal

pub returns-clause-graph : goal.returns-clause-graph
returns-clause-graph c = c.in_ok-refresh_graph.ensures
