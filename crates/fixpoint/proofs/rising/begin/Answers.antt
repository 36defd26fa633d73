use Rattle.std.proofs.Common.{[], ◌∷◌, ◌++◌, true, arith, length, length-append, ◌∙◌, ap}
use Rattle.std.proofs.lemmas.List.{replicate_more}
use Rattle.fixpoint.proofs.Tables.{keeps_first, pushed_is}
use Rattle.fixpoint.proofs.rising.begin.Goals as goal

pub loop-node-preserved : goal.loop-node-preserved
loop-node-preserved g c = record {
  long = let e = ap length c.in_ok-push.ensures.items in omega (arith, e, length-append c.loop-node.states.items (c.in_ok-entry.field-0 ∷ []), c.loop-node.invariant.long);
  is = pushed_is _ _ _ _ _ _ c.loop-node.invariant.long c.loop-node.invariant.is c.in_ok-entry.ensures c.in_ok-push.ensures.items;
  all = c.in_ok-push-2.ensures.items ∙ ap (λ l. l ++ true ∷ []) c.loop-node.invariant.all ∙ replicate_more c.loop-node.node true;
}

pub returns : goal.returns
returns g c = keeps_first _ _ _ _ _ g.met.F.State.Lattice.reflexive g.met.F.State.Lattice.transitive _ _ (g.met.F.Flow.laws c.args.flow.now c.requires) _ _ c.loop-node.node
    (omega (arith, c.nodes-nodes.ensures.is)) c.loop-node.invariant.long c.loop-node.invariant.is c.loop-node.invariant.all
