use Rattle.pipeline.proofs.silent.silent_marks.Goals as goal

pub returns-clause-exact : goal.returns-clause-exact
returns-clause-exact c = λ formed. c.marks_by.ensures.exact formed c.in_ok-graph.ensures
