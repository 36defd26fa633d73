use Rattle.std.proofs.Common.{◌∙◌, ◌≤◌, ℕ, ap, length, slice_index, arith, false}
use Rattle.std.specs.Prelude.{◌&&◌, slice_index_or}
use Rattle.std.specs.List.{list_all}
use Rattle.class_defs.specs.Finding.{beside}
use Rattle.class_defs.specs.Starts.{is_trivial}
use Rattle.hierarchy.specs.Tables.{read_at}
use Rattle.hierarchy.proofs.AlongOrder.{fills_in_place, order_short, trivial_here, filled_all, got_index}
use Rattle.hierarchy.proofs.quiet.trivial.Goals as goal

pub loop-class-preserved : goal.loop-class-preserved
loop-class-preserved c = λ p s.
    let x : ℕ = slice_index c.args.order.now c.loop-class.class-index in
    let f = c.loop-class.invariant p s in
    let ok = c.loop-class.marks.ok in
    fills_in_place (length p.classes) (is_trivial p) c.args.order.now c.loop-class.marks.items c.as_mut_slice.result.now c.turn.new.marks c.loop-class.marks.len c.loop-class.class-index c.is_trivial-on.result s.ordered.once
    (order_short c.args.supers.now c.args.lists.now.rows c.args.order.now (length p.classes) c.loop-class.class-index s.long s.ordered c.loop-class-test.true) c.loop-class-test.true (omega (arith, ok))
    c.as_mut_slice.ensures.value c.turn.ensures
    (c.is_trivial-on.ensures
    ∙ ap (λ b. b && list_all (λ u. slice_index_or c.as_slice.result.now u false) (beside c.read.result)) (c.is_on.ensures ∙ ap (λ t. slice_index_or t x false) c.as_slice-in-loop-class.ensures.value)
    ∙ ap (λ o. slice_index_or c.in_ok-quiet.quiet.items x false && list_all (λ u. slice_index_or c.as_slice.result.now u false) (beside o)) c.read.ensures
    ∙ ap (λ t. slice_index_or c.in_ok-quiet.quiet.items x false && list_all (λ u. slice_index_or t u false) (beside (read_at c.args.supers.now x))) c.as_slice.ensures.value
    ∙ trivial_here p c.args.starts.now c.args.supers.now c.args.lists.now.rows c.args.order.now s c.in_ok-quiet.quiet.items c.loop-class.marks.items c.loop-class.class-index x (c.in_ok-quiet.ensures p c.args.supers.now s) (got_index c.args.order.now c.loop-class.class-index c.loop-class-test.true) f)
    f

pub returns : goal.returns
returns c = λ p s.
    let done : length c.args.order.now ≤ c.loop-class.class-index = c.loop-class-test.false in
    filled_all c.args.supers.now c.args.lists.now.rows (is_trivial p) c.args.order.now c.loop-class.marks.items (length p.classes) c.loop-class.class-index s.long s.ordered done (c.loop-class.invariant p s)
