use Rattle.std.proofs.Common.{[], ◌∷◌, ap}
use Rattle.pipeline.specs.declared.traces.Traced.{Traced}
use Rattle.pipeline.specs.Passes.{QuietCalls, HavePassed}
use Rattle.pipeline.proofs.Results.{handed}
use Rattle.pipeline.proofs.passes.quiet_calls.Goals as goal

pub returns-clause-passed : goal.returns-clause-passed
returns-clause-passed c = λ graph outside found. handed c.with_graph.result c.in_ok-passed.passed (HavePassed outside c.args.admitted.now.methods.items (QuietCalls ∷ []) c.args.traced) c.with_graph.ensures.same
    (c.in_ok-passed.ensures graph outside found)

pub returns-clause-graph : goal.returns-clause-graph
returns-clause-graph c = λ graph outside found.
    c.with_graph.ensures.graph c.args.traced.program graph (λ none. ap (λ (x : Traced). x.program) ((c.in_ok-passed.ensures graph outside found).same none))
