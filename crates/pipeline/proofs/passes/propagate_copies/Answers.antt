use Rattle.std.proofs.Common.{[], ◌∷◌}
use Rattle.program_model.specs.declared.pass.Outside.{Outside}
use Rattle.pipeline.specs.declared.traces.Passed.{Passed}
use Rattle.pipeline.specs.Passes.{CopyProp, HavePassed}
use Rattle.pipeline.proofs.Passing.{same_program}
use Rattle.pipeline.proofs.Results.{handed}
use Rattle.pipeline.proofs.passes.propagate_copies.Goals as goal

pub returns-clause-passed : goal.returns-clause-passed
returns-clause-passed c = λ graph. handed c.with_graph.result c.in_ok-passed.passed (λ (r : Passed). (o : Outside) → HavePassed o c.args.admitted.now.methods.items (CopyProp ∷ []) c.args.traced r) c.with_graph.ensures.same
    (c.in_ok-passed.ensures graph)

pub returns-clause-graph : goal.returns-clause-graph
returns-clause-graph c = λ graph. c.with_graph.ensures.graph c.args.traced.program graph
    (same_program c.args.admitted.now.methods.items (CopyProp ∷ []) c.args.traced c.in_ok-passed.passed (c.in_ok-passed.ensures graph))
