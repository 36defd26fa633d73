use Rattle.std.proofs.Common.{◌∙◌, ◌≤◌, ℕ, ap, length, slice_index, arith, false}
use Rattle.std.specs.Prelude.{◌&&◌, not, is_some, slice_index_or}
use Rattle.std.specs.List.{list_all}
use Rattle.hierarchy.specs.Quieting.{is_quiet}
use Rattle.hierarchy.specs.Tables.{read_at, row_of}
use Rattle.hierarchy.proofs.AlongOrder.{fills_in_place, order_short, quiet_here, filled_all, got_index}
use Rattle.hierarchy.proofs.quiet.quiet.Goals as goal

pub loop-class-preserved : goal.loop-class-preserved
loop-class-preserved c = λ p supers s.
    let x : ℕ = slice_index c.args.order.now c.loop-class.class-index in
    let f = c.loop-class.invariant p supers s in
    let ok = c.loop-class.marks.ok in
    fills_in_place (length p.classes) (is_quiet p) c.args.order.now c.loop-class.marks.items c.as_mut_slice.result.now c.turn.new.marks c.loop-class.marks.len c.loop-class.class-index c.is_quiet-on.result s.ordered.once
    (order_short supers c.args.lists.now.rows c.args.order.now (length p.classes) c.loop-class.class-index s.long s.ordered c.loop-class-test.true) c.loop-class-test.true (omega (arith, ok))
    c.as_mut_slice.ensures.value c.turn.ensures
    (c.is_quiet-on.ensures
    ∙ ap (λ o. not (is_some o) && list_all (λ u. slice_index_or c.as_slice.result.now u false) c.row.result.now) c.read.ensures
    ∙ ap (λ l. not (is_some (read_at c.args.starts.now x)) && list_all (λ u. slice_index_or c.as_slice.result.now u false) l) c.row.ensures
    ∙ ap (λ t. not (is_some (read_at c.args.starts.now x)) && list_all (λ u. slice_index_or t u false) (row_of c.args.lists.now.rows x)) c.as_slice.ensures.value
    ∙ quiet_here p c.args.starts.now supers c.args.lists.now.rows c.args.order.now s c.loop-class.marks.items c.loop-class.class-index x (got_index c.args.order.now c.loop-class.class-index c.loop-class-test.true) f)
    f

pub returns : goal.returns
returns c = λ p supers s.
    let done : length c.args.order.now ≤ c.loop-class.class-index = c.loop-class-test.false in
    filled_all supers c.args.lists.now.rows (is_quiet p) c.args.order.now c.loop-class.marks.items (length p.classes) c.loop-class.class-index s.long s.ordered done (c.loop-class.invariant p supers s)
