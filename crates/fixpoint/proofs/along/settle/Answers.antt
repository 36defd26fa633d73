use Rattle.std.proofs.Common.{◌<◌, get_or, arith, length, sym, ◌∙◌, subst}
use Rattle.std.specs.Prelude.{All}
use Rattle.std.proofs.lemmas.List.{get_or_default}
use Rattle.fixpoint.specs.Rising.{Done}
use Rattle.fixpoint.proofs.Rows.{row_range}
use Rattle.fixpoint.proofs.Tables.{keeps_on}
use Rattle.fixpoint.proofs.along.settle.Goals as goal

pub follow_row-requires-clause-row : goal.follow_row-requires-clause-row
follow_row-requires-clause-row g c =
    let n = get_or c.args.nodes.now c.in-Some.next 0 in
    let lt : n < (g.F.Flow.graph c.args.flow.now).nodes = c.requires.nodes c.in-Some.next 0 c.in-Some.ensures.some.0 in
    let inside : n < length c.args.rows.now = omega (arith, lt, c.requires.rows.long) in
    subst (All (λ e. e < (g.F.Flow.graph c.args.flow.now).edges)) (sym (c.as_slice-in-Some.ensures ∙ c.index-rows-node.is ∙ get_or_default _ _ _ _ inside)) (row_range _ c.args.rows.now n c.requires.rows)

pub returns-then-joined-clause-keeps : goal.returns-then-joined-clause-keeps
returns-then-joined-clause-keeps g c =
    let n = get_or c.args.nodes.now c.in-Some.next 0 in
    let lt : n < (g.F.Flow.graph c.args.flow.now).nodes = c.requires.nodes c.in-Some.next 0 c.in-Some.ensures.some.0 in
    let inside : n < length c.args.rows.now = omega (arith, lt, c.requires.rows.long) in
    keeps_on _ _ _ _ _ g.met.F.State.Lattice.reflexive g.met.F.State.Lattice.transitive c.args.rows.now _ _ c.loop-next.table.waiting.items _ n c.requires.rows c.loop-next.invariant.keeps c.in_ok-joined.ensures.rises
    (subst (All (Done g.F.State.Lattice.below g.F.State.Lattice.least (g.F.Flow.graph c.args.flow.now) _ _)) (c.as_slice-in-Some.ensures ∙ c.index-rows-node.is ∙ get_or_default _ _ _ _ inside) c.in_ok-joined.ensures.done)

pub loop-next-preserved : goal.loop-next-preserved
loop-next-preserved g c =
    let n = get_or c.args.nodes.now c.in-Some.next 0 in
    let lt : n < (g.F.Flow.graph c.args.flow.now).nodes = c.requires.nodes c.in-Some.next 0 c.in-Some.ensures.some.0 in
    let inside : n < length c.args.rows.now = omega (arith, lt, c.requires.rows.long) in
    let s = c.in_ok-joined.ensures.spends in
    record {
      keeps = keeps_on _ _ _ _ _ g.met.F.State.Lattice.reflexive g.met.F.State.Lattice.transitive c.args.rows.now _ _ c.loop-next.table.waiting.items _ n c.requires.rows c.loop-next.invariant.keeps c.in_ok-joined.ensures.rises
          (subst (All (Done g.F.State.Lattice.below g.F.State.Lattice.least (g.F.Flow.graph c.args.flow.now) _ _)) (c.as_slice-in-Some.ensures ∙ c.index-rows-node.is ∙ get_or_default _ _ _ _ inside) c.in_ok-joined.ensures.done);
      long = s.long ∙ c.loop-next.invariant.long;
      no_rise = omega (arith, s.no_rise, c.loop-next.invariant.no_rise);
    }
