use Rattle.std.proofs.Common.{◌≡◌, ◌<◌, arith, length, false, true, sym, ◌∙◌}
use Rattle.std.proofs.lemmas.List.{get_or_default}
use Rattle.fixpoint.proofs.Tables.{followed}
use Rattle.fixpoint.proofs.rising.follow.Goals as goal

pub returns : goal.returns
returns g c =
    let laws = g.met.F.Flow.laws c.args.flow.now c.requires.sound in
    let ends = laws.ends c.args.edge c.requires.edge in
    let from_lt : c.edge-from.result.0 < length c.args.table.now.states.items = omega (arith, ends.0, c.edge-from.ensures.from, c.requires.states) in
    let to_lt : c.edge-from.result.1 < length c.args.table.now.states.items = omega (arith, ends.1, c.edge-from.ensures.to, c.requires.states) in
    followed _ _ _ _ _ g.met.F.State.Lattice.reflexive g.met.F.State.Lattice.transitive g.F.State.Domain.rank _ _ laws (λ e x y z. g.met.F.State.Domain.join_least x y z e) c.args.widens c.args.table.now.states.items c.args.table.now.waiting.items c.args.edge c.edge-from.result.1 c.edge-from.result.0
    c.index.result.now c.index-2.result.now c.index-3.result.now c.in_ok-moved.moved c.in_ok-risen.risen c.requires.edge c.requires.states c.requires.waiting c.edge-from.ensures.to c.edge-from.ensures.from
    (c.index.ensures ∙ get_or_default _ _ _ _ from_lt) c.in_ok-moved.ensures (c.index-2.ensures ∙ get_or_default _ _ _ _ to_lt) (c.index-3.ensures ∙ get_or_default _ _ _ _ to_lt)
    c.in_ok-risen.ensures (λ b. let t : c.leq.result ≡ true = c.leq.ensures.1 b in let h : true ≡ false = sym t ∙ c.if-leq.false in absurd (cc))
