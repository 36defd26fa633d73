use Rattle.std.proofs.Common.{◌≡◌, [], ◌∷◌, take, get_or, arith, subst}
use Rattle.std.specs.Prelude.{All}
use Rattle.std.proofs.lemmas.Grind.{common_steps}
use Rattle.std.proofs.lemmas.List.{take_more}
use Rattle.std.proofs.lemmas.List.Elements.{All-nil, All-cons, All-weaker, All-append}
use Rattle.fixpoint.specs.Rising.{Done}
use Rattle.fixpoint.proofs.Patience.{spends_on}
use Rattle.fixpoint.proofs.Tables.{rises_on, done_on}
use Rattle.fixpoint.proofs.along.follow_row.Goals as goal

pub loop-edge-preserved : goal.loop-edge-preserved
loop-edge-preserved g c =
    let D = Done g.F.State.Lattice.below g.F.State.Lattice.least (g.F.Flow.graph c.args.flow.now) in
    let D' = D c.follow_patiently.new.table.states.items c.follow_patiently.new.table.waiting.items in
    let r = c.in_ok-step.ensures.rises in
    let x = get_or c.args.row.now c.loop-edge.edge-index 0 in
    let front = take c.loop-edge.edge-index c.args.row.now in
    record {
      rises = rises_on _ _ _ _ _ g.met.F.State.Lattice.reflexive g.met.F.State.Lattice.transitive _ _ _ _ _ _ c.loop-edge.invariant.rises r;
      done = rw (take_more c.args.row.now c.loop-edge.edge-index 0 c.loop-edge-test.true) (All-append D' front (x ∷ [])
          (All-weaker (D c.loop-edge.table.states.items c.loop-edge.table.waiting.items) D' (λ e. done_on _ _ _ _ _ g.met.F.State.Lattice.reflexive g.met.F.State.Lattice.transitive _ _ _ _ e r) front c.loop-edge.invariant.done)
          (All-cons D' x [] c.in_ok-step.ensures.done (All-nil D')));
      spends = spends_on _ _ _ _ _ _ _ _ _ _ c.loop-edge.joined c.in_ok-step.step c.loop-edge.invariant.spends c.in_ok-step.ensures.spends;
    }

pub returns-clause-done : goal.returns-clause-done
returns-clause-done g c =
    let e : take c.loop-edge.edge-index c.args.row.now ≡ c.args.row.now = grind (arith, common_steps) in
    subst (All (Done g.F.State.Lattice.below g.F.State.Lattice.least (g.F.Flow.graph c.args.flow.now) c.loop-edge.table.states.items c.loop-edge.table.waiting.items)) e c.loop-edge.invariant.done
