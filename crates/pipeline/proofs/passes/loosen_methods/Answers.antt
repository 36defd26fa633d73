use Rattle.std.proofs.Common.{[], ◌∷◌, ap}
use Rattle.pipeline.specs.declared.traces.Traced.{Traced}
use Rattle.pipeline.specs.Passes.{Staticise, HavePassed}
use Rattle.pipeline.proofs.Results.{handed}
use Rattle.pipeline.proofs.passes.loosen_methods.Goals as goal

pub returns-clause-passed : goal.returns-clause-passed
returns-clause-passed c = λ graph found. handed c.with_facts.result c.in_ok-passed.passed (HavePassed c.args.outside.now c.args.admitted.now.methods.items (Staticise ∷ []) c.args.traced) c.with_facts.ensures.same
    (c.in_ok-passed.ensures graph found)

pub returns-clause-graph : goal.returns-clause-graph
returns-clause-graph c = λ graph found.
    c.with_facts.ensures.graph c.args.traced.program graph (λ none. ap (λ (x : Traced). x.program) ((c.in_ok-passed.ensures graph found).same none))

pub returns-clause-facts : goal.returns-clause-facts
returns-clause-facts c = λ graph found.
    c.with_facts.ensures.facts c.args.traced.program graph found (λ none. ap (λ (x : Traced). x.program) ((c.in_ok-passed.ensures graph found).same none))
