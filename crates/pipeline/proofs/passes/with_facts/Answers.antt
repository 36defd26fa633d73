use Rattle.std.proofs.Common.{◌≡◌, sym, subst}
use Rattle.pipeline.specs.declared.traces.Passed.{Passed}
use Rattle.pipeline.specs.Changes.{total_of}
use Rattle.pipeline.proofs.passes.with_facts.Goals as goal

pub returns-clause-same : goal.returns-clause-same
returns-clause-same c = c.in_ok-passed.ensures.same

pub returns-clause-graph : goal.returns-clause-graph
returns-clause-graph c = c.in_ok-passed.ensures.graph

pub returns-clause-facts : goal.returns-clause-facts
returns-clause-facts c = λ p graph found same. c.in_ok-refresh_facts.ensures p (c.in_ok-passed.ensures.graph p graph same) found
    (subst (λ (x : Passed). total_of x.changes ≡ 0 → x.traced.program ≡ p) (sym c.in_ok-passed.ensures.same) same)
