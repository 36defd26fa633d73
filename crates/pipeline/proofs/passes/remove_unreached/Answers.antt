use Rattle.std.proofs.Common.{◌≡◌, Bool, false, rules, List, [], ◌∷◌, ap, sym, subst}
use Rattle.pipeline.specs.declared.traces.Traced.{Traced}
use Rattle.pipeline.specs.declared.traces.Passed.{Passed}
use Rattle.pipeline.specs.Graph.{IsGraph}
use Rattle.pipeline.specs.Passes.{Reach, HavePassed}
use Rattle.pipeline.proofs.Passing.{barred_passed}
use Rattle.pipeline.proofs.Results.{handed}
use Rattle.pipeline.proofs.passes.remove_unreached.Goals as goal

pub returns-then-not-outside-clause-passed : goal.returns-then-not-outside-clause-passed
returns-then-not-outside-clause-passed c =
    let barred : c.args.outside.now.shrink ≡ false = search rules in
    λ graph admitted. barred_passed c.args.outside.now admitted c.args.traced c.unchanged.result c.unchanged.ensures.traced c.unchanged.ensures.changes barred

pub returns-then-not-outside-clause-graph : goal.returns-then-not-outside-clause-graph
returns-then-not-outside-clause-graph c = λ graph. subst (λ (x : Traced). IsGraph x.program c.args.graph.now) (sym c.unchanged.ensures.traced) graph

pub returns-clause-passed : goal.returns-clause-passed
returns-clause-passed c = λ graph. handed c.with_graph.result c.in_ok-passed.passed (λ (r : Passed). (admitted : List Bool) → HavePassed c.args.outside.now admitted (Reach ∷ []) c.args.traced r) c.with_graph.ensures.same
    (c.in_ok-passed.ensures graph)

pub returns-clause-graph : goal.returns-clause-graph
returns-clause-graph c = λ graph. c.with_graph.ensures.graph c.args.traced.program graph (λ none. ap (λ (x : Traced). x.program) ((c.in_ok-passed.ensures graph []).same none))
