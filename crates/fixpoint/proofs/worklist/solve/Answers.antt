use Rattle.std.proofs.Common.{◌≡◌, ◌<◌, false, arith, length, sym, ◌∙◌, subst, rules, inl, inr}
use Rattle.std.specs.Prelude.{All}
use Rattle.std.proofs.lemmas.List.{get_or_default}
use Rattle.fixpoint.specs.Rising.{Done}
use Rattle.fixpoint.proofs.Queue.{first_range, rest_range, skipped, taken}
use Rattle.fixpoint.proofs.Rows.{row_range}
use Rattle.fixpoint.proofs.Tables.{keeps_on}
use Rattle.fixpoint.proofs.worklist.solve.Goals as goal

pub loop-node-preserved-then-not-index : goal.loop-node-preserved-then-not-index
loop-node-preserved-then-not-index g c =
    let k = c.loop-node.invariant in
    let w = c.loop-node.table.waiting.items in
    let x = c.in-Some.node in
    let lt = first_range w c.loop-node.queue.items c.pop_front.new.self.items x c.in-Some.ensures.items _ k.range in
    let inside : x < length w = omega (arith, lt, k.keeps.flags) in
    let off : c.index.result.now ≡ false = search rules in
    record {
      keeps = k.keeps;
      queued = skipped w c.loop-node.queue.items c.pop_front.new.self.items x c.in-Some.ensures.items (sym (c.index.ensures ∙ get_or_default _ _ _ _ inside) ∙ off) k.queued;
      range = rest_range w c.loop-node.queue.items c.pop_front.new.self.items x c.in-Some.ensures.items _ k.range;
    }

pub follow_row-requires-clause-row : goal.follow_row-requires-clause-row
follow_row-requires-clause-row g c =
    let lt = first_range c.loop-node.table.waiting.items c.loop-node.queue.items c.pop_front.new.self.items c.in-Some.node c.in-Some.ensures.items _ c.loop-node.invariant.range in
    let inside : c.in-Some.node < length c.in_ok-rows.rows.items = omega (arith, lt, c.in_ok-rows.ensures.long) in
    subst (All (λ e. e < (g.F.Flow.graph c.args.flow.now).edges)) (sym (c.as_slice.ensures ∙ c.index-in-Some.ensures ∙ get_or_default _ _ _ _ inside)) (row_range _ c.in_ok-rows.rows.items c.in-Some.node c.in_ok-rows.ensures)

pub loop-node-preserved : goal.loop-node-preserved
loop-node-preserved g c =
    let k = c.loop-node.invariant in
    let w = c.loop-node.table.waiting.items in
    let x = c.in-Some.node in
    let lt = first_range w c.loop-node.queue.items c.pop_front.new.self.items x c.in-Some.ensures.items _ k.range in
    let inside : x < length c.in_ok-rows.rows.items = omega (arith, lt, c.in_ok-rows.ensures.long) in
    let flag : x < length w = omega (arith, lt, k.keeps.flags) in
    let queues = c.in_ok-follow_row.ensures.queues in
    record {
      keeps = keeps_on _ _ _ _ _ g.met.F.State.Lattice.reflexive g.met.F.State.Lattice.transitive c.in_ok-rows.rows.items _ _ w _ x c.in_ok-rows.ensures k.keeps c.in_ok-follow_row.ensures.rises
          (subst (All (Done g.F.State.Lattice.below g.F.State.Lattice.least (g.F.Flow.graph c.args.flow.now) _ _)) (c.as_slice.ensures ∙ c.index-in-Some.ensures ∙ get_or_default _ _ _ _ inside) c.in_ok-follow_row.ensures.done);
      queued = λ n h. elim (queues.queued n h) [ inr q ↦ q | inl s ↦ queues.kept n (taken w c.loop-node.queue.items c.pop_front.new.self.items x c.in-Some.ensures.items flag k.queued n s) ];
      range = queues.range (rest_range w c.loop-node.queue.items c.pop_front.new.self.items x c.in-Some.ensures.items _ k.range);
    }
