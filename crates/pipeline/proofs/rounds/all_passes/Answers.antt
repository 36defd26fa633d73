use Rattle.std.proofs.Common.{[], ◌∷◌, ◌∙◌, sym, subst}
use Rattle.pipeline.specs.declared.traces.Traced.{Traced}
use Rattle.pipeline.specs.Graph.{IsGraph}
use Rattle.pipeline.specs.Passes.{Reach, ConstProp, Devirt, Staticise, QuietCalls, values, repeated, HavePassed, HaveRepeated}
use Rattle.pipeline.proofs.Passing.{both_looked, both_passed, none_is}
use Rattle.pipeline.proofs.rounds.all_passes.Goals as goal

pub returns : goal.returns
returns c = λ before.
    let o = c.args.outside.now in
    let admitted = c.args.admitted.now.methods.items in
    let reached = c.in_ok-reached.ensures.graph before in
    let valued : HavePassed o admitted values c.args.traced c.and_then-valued.result =
    both_passed o admitted (Reach ∷ []) (ConstProp ∷ Devirt ∷ Staticise ∷ QuietCalls ∷ []) c.args.traced c.in_ok-reached.reached c.in_ok-valued.valued c.and_then-valued.result
    (c.in_ok-reached.ensures.passed before admitted) (c.in_ok-valued.ensures.passed reached) c.and_then-valued.ensures.traced c.and_then-valued.ensures.removed c.and_then-valued.ensures.folded c.and_then-valued.ensures.rebound c.and_then-valued.ensures.reread c.and_then-valued.ensures.renamed in
    let looks : HaveRepeated admitted c.is_none-all.result c.and_then-valued.result.traced c.in_ok-left.left =
    c.in_ok-left.ensures (subst (λ (x : Traced). IsGraph x.program c.value_passes.new.graph) (sym c.and_then-valued.ensures.traced) (c.in_ok-valued.ensures.graph reached)) in
    record {
      times = looks.times;
      passed = both_looked o admitted values (repeated looks.times) c.args.traced c.and_then-valued.result c.in_ok-left.left c.and_then.result c.is_none-all.result
          valued (looks.looked o) (λ none. c.is_none-all.ensures ∙ none_is none)
          c.and_then.ensures.traced c.and_then.ensures.removed c.and_then.ensures.folded c.and_then.ensures.rebound c.and_then.ensures.reread c.and_then.ensures.renamed;
    }
