use Rattle.std.proofs.Common.{refl, sym, ap, ◌∙◌}
use Rattle.inline_calls.specs.Plans.{LooksInClass, BeginsInClass}
use Rattle.inline_calls.proofs.Asks.{no_asks, more_asks, so_asks, on_err}
use Rattle.inline_calls.proofs.Looking.{got, none_looked, next_looked, all_looked, in_place, begins_in, begun_within, begun_between}
use Rattle.inline_calls.proofs.pass.edit_classes.Goals as goal

pub loop-place-init : goal.loop-place-init
loop-place-init g c = no_asks _ _ _ (none_looked (LooksInClass c.args.inliner.now) c.args.classes.now c.args.done.now _ c.new-rows.ensures.items)

pub loop-place-preserved : goal.loop-place-preserved
loop-place-preserved g c =
    let i = c.args.inliner.now in
    let k = c.loop-place.place in
    more_asks _ _ _ _ _ _ _ _ _
    (λ rows more was looks. next_looked (LooksInClass i) c.args.classes.now c.args.done.now k _ c.loop-place.rows.items c.push.new.self.items c.in_ok-row.row c.loop-place.done _
    (got c.args.classes.now k c.index-classes-place.result c.loop-place-test.true c.index-classes-place.is) c.in_ok-push.ensures.items rows more was
    (in_place i c.word.result k _ c.loop-place.done _ c.in_ok-row.row c.word.ensures more looks))
    c.loop-place.invariant c.in_ok-row.ensures.looked

pub returns-in_err-row-clause-begun : goal.returns-in_err-row-clause-begun
returns-in_err-row-clause-begun g c =
    let i = c.args.inliner.now in
    let k = c.loop-place.place in
    on_err _ (more_asks _ _ _ _ _ _ _ _ _
    (λ rows more was begun. begun_within (LooksInClass i) (BeginsInClass i) c.args.classes.now c.args.done.now k _ c.loop-place.rows.items c.loop-place.done
    (got c.args.classes.now k c.index-classes-place.result c.loop-place-test.true c.index-classes-place.is) rows more was
    (begins_in i c.word.result k _ c.loop-place.done c.word.ensures more begun))
    c.loop-place.invariant c.in_err-row.ensures.begun)

pub returns-in_err-push-clause-begun : goal.returns-in_err-push-clause-begun
returns-in_err-push-clause-begun g c =
    let i = c.args.inliner.now in
    let k = c.loop-place.place in
    on_err _ (more_asks _ _ _ _ _ _ _ _ _
    (λ rows more was looks. begun_between (LooksInClass i) (BeginsInClass i) c.args.classes.now c.args.done.now k _ c.loop-place.rows.items c.in_ok-row.row c.loop-place.done _
    (got c.args.classes.now k c.index-classes-place.result c.loop-place-test.true c.index-classes-place.is) rows more was
    (in_place i c.word.result k _ c.loop-place.done _ c.in_ok-row.row c.word.ensures more looks))
    c.loop-place.invariant c.in_ok-row.ensures.looked)

pub returns-clause-looked : goal.returns-clause-looked
returns-clause-looked g c =
    so_asks _ _ _ _ _ _ (all_looked (LooksInClass c.args.inliner.now) c.args.classes.now c.args.done.now c.loop-place.place c.loop-place-test.false c.loop-place.rows.items c.of_vec.result c.loop-place.done c.of_vec.ensures) c.loop-place.invariant
