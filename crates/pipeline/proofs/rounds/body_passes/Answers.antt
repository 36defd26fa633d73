use Rattle.std.proofs.Common.{[], ◌∷◌, ◌∙◌, sym, subst}
use Rattle.pipeline.specs.declared.traces.Traced.{Traced}
use Rattle.pipeline.specs.Graph.{IsGraph}
use Rattle.pipeline.specs.Passes.{CopyProp, DeadCode, Squeeze, Compact, HavePassed}
use Rattle.pipeline.proofs.Passing.{both_passed, none_before, some_outside}
use Rattle.pipeline.proofs.rounds.body_passes.Goals as goal

pub returns-clause-passed : goal.returns-clause-passed
returns-clause-passed c = λ graph o.
    let admitted = c.args.admitted.now.methods.items in
    let cleaned : HavePassed o admitted (CopyProp ∷ DeadCode ∷ []) c.args.traced c.and_then-cleaned.result = both_passed o admitted (CopyProp ∷ []) (DeadCode ∷ []) c.args.traced c.in_ok-copied.copied c.in_ok-cleaned.cleaned c.and_then-cleaned.result
    (c.in_ok-copied.ensures.passed graph o) (c.in_ok-cleaned.ensures (c.in_ok-copied.ensures.graph graph) o) c.and_then-cleaned.ensures.traced c.and_then-cleaned.ensures.removed c.and_then-cleaned.ensures.folded c.and_then-cleaned.ensures.rebound c.and_then-cleaned.ensures.reread c.and_then-cleaned.ensures.renamed in
    let squeezed : HavePassed o admitted (CopyProp ∷ DeadCode ∷ Squeeze ∷ []) c.args.traced c.and_then-squeezed.result = both_passed o admitted (CopyProp ∷ DeadCode ∷ []) (Squeeze ∷ []) c.args.traced c.and_then-cleaned.result c.in_ok-squeezed.squeezed c.and_then-squeezed.result
    cleaned (c.in_ok-squeezed.ensures o) c.and_then-squeezed.ensures.traced c.and_then-squeezed.ensures.removed c.and_then-squeezed.ensures.folded c.and_then-squeezed.ensures.rebound c.and_then-squeezed.ensures.reread c.and_then-squeezed.ensures.renamed in
    both_passed o admitted (CopyProp ∷ DeadCode ∷ Squeeze ∷ []) (Compact ∷ []) c.args.traced c.and_then-squeezed.result c.in_ok-compacted.compacted c.and_then.result
    squeezed (c.in_ok-compacted.ensures o) c.and_then.ensures.traced c.and_then.ensures.removed c.and_then.ensures.folded c.and_then.ensures.rebound c.and_then.ensures.reread c.and_then.ensures.renamed

pub returns-clause-graph : goal.returns-clause-graph
returns-clause-graph c = λ graph none.
    let admitted = c.args.admitted.now.methods.items in
    let o = some_outside in
    let copied : HavePassed o admitted (CopyProp ∷ []) c.args.traced c.in_ok-copied.copied = c.in_ok-copied.ensures.passed graph o in
    let cleaned : HavePassed o admitted (CopyProp ∷ DeadCode ∷ []) c.args.traced c.and_then-cleaned.result = both_passed o admitted (CopyProp ∷ []) (DeadCode ∷ []) c.args.traced c.in_ok-copied.copied c.in_ok-cleaned.cleaned c.and_then-cleaned.result
    copied (c.in_ok-cleaned.ensures (c.in_ok-copied.ensures.graph graph) o) c.and_then-cleaned.ensures.traced c.and_then-cleaned.ensures.removed c.and_then-cleaned.ensures.folded c.and_then-cleaned.ensures.rebound c.and_then-cleaned.ensures.reread c.and_then-cleaned.ensures.renamed in
    let squeezed : HavePassed o admitted (CopyProp ∷ DeadCode ∷ Squeeze ∷ []) c.args.traced c.and_then-squeezed.result = both_passed o admitted (CopyProp ∷ DeadCode ∷ []) (Squeeze ∷ []) c.args.traced c.and_then-cleaned.result c.in_ok-squeezed.squeezed c.and_then-squeezed.result
    cleaned (c.in_ok-squeezed.ensures o) c.and_then-squeezed.ensures.traced c.and_then-squeezed.ensures.removed c.and_then-squeezed.ensures.folded c.and_then-squeezed.ensures.rebound c.and_then-squeezed.ensures.reread c.and_then-squeezed.ensures.renamed in
    let compacted : HavePassed o admitted (CopyProp ∷ DeadCode ∷ Squeeze ∷ Compact ∷ []) c.args.traced c.and_then.result = both_passed o admitted (CopyProp ∷ DeadCode ∷ Squeeze ∷ []) (Compact ∷ []) c.args.traced c.and_then-squeezed.result c.in_ok-compacted.compacted c.and_then.result
    squeezed (c.in_ok-compacted.ensures o) c.and_then.ensures.traced c.and_then.ensures.removed c.and_then.ensures.folded c.and_then.ensures.rebound c.and_then.ensures.reread c.and_then.ensures.renamed in
    let third = none_before c.and_then-squeezed.result.changes c.in_ok-compacted.compacted.changes c.and_then.result.changes c.and_then.ensures.removed c.and_then.ensures.folded c.and_then.ensures.rebound c.and_then.ensures.reread c.and_then.ensures.renamed none in
    let second = none_before c.and_then-cleaned.result.changes c.in_ok-squeezed.squeezed.changes c.and_then-squeezed.result.changes c.and_then-squeezed.ensures.removed c.and_then-squeezed.ensures.folded c.and_then-squeezed.ensures.rebound c.and_then-squeezed.ensures.reread c.and_then-squeezed.ensures.renamed third in
    let first = none_before c.in_ok-copied.copied.changes c.in_ok-cleaned.cleaned.changes c.and_then-cleaned.result.changes c.and_then-cleaned.ensures.removed c.and_then-cleaned.ensures.folded c.and_then-cleaned.ensures.rebound c.and_then-cleaned.ensures.reread c.and_then-cleaned.ensures.renamed second in
    subst (λ (x : Traced). IsGraph x.program c.propagate_copies.new.graph) (copied.same first ∙ sym (compacted.same none)) (c.in_ok-copied.ensures.graph graph)
