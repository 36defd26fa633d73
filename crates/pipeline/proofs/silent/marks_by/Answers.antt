use Rattle.std.proofs.Common.{ℕ, List, subst}
use Rattle.pipeline.specs.Silence.{ArePartOf, AreQuiet}
use Rattle.pipeline.proofs.Graphs.{found_fault, found_graph}
use Rattle.pipeline.proofs.silent.marks_by.Goals as goal

pub returns-in_ok-marks-in-Some-clause-part : goal.returns-in_ok-marks-in-Some-clause-part
returns-in_ok-marks-in-Some-clause-part c = subst (λ (silent : List ℕ). ArePartOf silent c.in_ok-marks-in-Some.marks.items) c.as_slice.ensures c.in_ok-marks-in-Some.ensures.part

pub returns-in_ok-marks-in-Some-clause-exact : goal.returns-in_ok-marks-in-Some-clause-exact
returns-in_ok-marks-in-Some-clause-exact c = λ formed graph. subst (λ (silent : List ℕ). AreQuiet c.args.program.now silent c.in_ok-marks-in-Some.marks.items) c.as_slice.ensures
    (c.in_ok-marks-in-Some.ensures.exact (found_graph c.args.program.now c.args.graph.now c.in-Some.hierarchy (graph formed) c.in-Some.is).resolved.of)

pub returns-in-None-clause-exact : goal.returns-in-None-clause-exact
returns-in-None-clause-exact c = λ formed graph. found_fault c.args.program.now c.args.graph.now (graph formed) c.in-None.is
