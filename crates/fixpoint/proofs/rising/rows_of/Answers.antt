use Rattle.std.proofs.Common.{◌<◌, [], ◌∷◌, ◌++◌, arith, length, ◌∙◌, ap}
use Rattle.std.proofs.lemmas.List.{get_or_default}
use Rattle.fixpoint.proofs.Rows.{rows_first, rows_more}
use Rattle.fixpoint.proofs.rising.rows_of.Goals as goal

pub loop-e-init : goal.loop-e-init
loop-e-init g c = rows_first _ _ (omega (arith, c.loop.invariant.long, c.nodes-nodes.ensures.is)) c.loop.invariant.empty

pub loop-e-preserved : goal.loop-e-preserved
loop-e-preserved g c =
    let lt : c.loop-e.e < (g.F.Flow.graph c.args.flow.now).edges = omega (arith, c.edges-e-end.ensures) in
    let ends = (g.met.F.Flow.laws c.args.flow.now c.requires).ends c.loop-e.e lt in
    let inside : c.edge-from.result.0 < length c.loop-e.rows.items = omega (arith, ends.0, c.edge-from.ensures.from, c.loop-e.invariant.long) in
    rows_more _ c.loop-e.rows.items c.push-in-loop-e.new.self.items c.loop-e.e c.edge-from.result.0 lt c.edge-from.ensures.from inside c.loop-e.invariant
    (c.in_ok-push-2.ensures.items ∙ ap (λ l. l ++ c.loop-e.e ∷ []) (c.behind-rows.view_is ∙ c.index_mut.ensures.value ∙ get_or_default _ _ _ _ inside))
