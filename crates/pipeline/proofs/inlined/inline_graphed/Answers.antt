use Rattle.pipeline.proofs.Graphs.{found_fault, found_graph}
use Rattle.pipeline.proofs.Inlines.{keeps}
use Rattle.pipeline.proofs.inlined.inline_graphed.Goals as goal

pub returns-in-Some-clause-inlined : goal.returns-in-Some-clause-inlined
returns-in-Some-clause-inlined g c = λ formed graph. c.inline_by.ensures.inlined formed (found_graph c.args.program c.args.graph.now c.in-Some.hierarchy (graph formed) c.in-Some.is)

pub returns-in-Some-clause-begun : goal.returns-in-Some-clause-begun
returns-in-Some-clause-begun g c = λ formed graph. c.inline_by.ensures.begun formed (found_graph c.args.program c.args.graph.now c.in-Some.hierarchy (graph formed) c.in-Some.is)

pub returns-in-None-clause-inlined : goal.returns-in-None-clause-inlined
returns-in-None-clause-inlined g c = λ formed graph. keeps c.args.outside.now c.args.admitted.now.methods.items c.args.program c.unmoved.result _ _ c.unmoved.ensures
    (found_fault c.args.program c.args.graph.now (graph formed) c.in-None.is)
