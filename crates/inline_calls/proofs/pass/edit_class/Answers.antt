use Rattle.std.proofs.Common.{refl, sym, ap, ◌∙◌, length, arith}
use Rattle.inline_calls.specs.Plans.{LooksAtMethod, BeginsAtMethod}
use Rattle.inline_calls.proofs.Asks.{no_asks, more_asks, so_asks, on_err}
use Rattle.inline_calls.proofs.Looking.{got_in, none_looked, next_looked, all_looked, at_place, begins_place, begun_within, begun_between}
use Rattle.inline_calls.proofs.pass.edit_class.Goals as goal

pub loop-number-init : goal.loop-number-init
loop-number-init g c = no_asks _ _ _ (none_looked (LooksAtMethod c.args.inliner.now c.args.class_place c.args.class.now) c.args.class.now.methods c.args.done.now _ c.new-row.ensures.items)

pub loop-number-preserved : goal.loop-number-preserved
loop-number-preserved g c =
    let i = c.args.inliner.now in
    let class = c.args.class.now in
    let place = c.args.class_place in
    let k = c.loop-number.number in
    more_asks _ _ _ _ _ _ _ _ _
    (λ rows more was looks. next_looked (LooksAtMethod i place class) class.methods c.args.done.now k _ c.loop-number.row.items c.push.new.self.items c.in_ok-edit.edit c.loop-number.done _
    (got_in class.methods c.as_slice-method-items.result.now k c.method-item.result c.as_slice-method-items.ensures c.loop-number-test.true c.method-item.is) c.in_ok-push.ensures.items rows more was
    (at_place i class place c.word.result k _ c.loop-number.done _ c.in_ok-edit.edit c.word.ensures more looks))
    c.loop-number.invariant c.in_ok-edit.ensures.looked

pub returns-in_err-edit-clause-begun : goal.returns-in_err-edit-clause-begun
returns-in_err-edit-clause-begun g c =
    let i = c.args.inliner.now in
    let class = c.args.class.now in
    let place = c.args.class_place in
    let k = c.loop-number.number in
    on_err _ (more_asks _ _ _ _ _ _ _ _ _
    (λ rows more was begun. begun_within (LooksAtMethod i place class) (BeginsAtMethod i place class) class.methods c.args.done.now k _ c.loop-number.row.items c.loop-number.done
    (got_in class.methods c.as_slice-method-items.result.now k c.method-item.result c.as_slice-method-items.ensures c.loop-number-test.true c.method-item.is) rows more was
    (begins_place i class place c.word.result k _ c.loop-number.done c.word.ensures more begun))
    c.loop-number.invariant c.in_err-edit.ensures.begun)

pub returns-in_err-push-clause-begun : goal.returns-in_err-push-clause-begun
returns-in_err-push-clause-begun g c =
    let i = c.args.inliner.now in
    let class = c.args.class.now in
    let place = c.args.class_place in
    let k = c.loop-number.number in
    on_err _ (more_asks _ _ _ _ _ _ _ _ _
    (λ rows more was looks. begun_between (LooksAtMethod i place class) (BeginsAtMethod i place class) class.methods c.args.done.now k _ c.loop-number.row.items c.in_ok-edit.edit c.loop-number.done _
    (got_in class.methods c.as_slice-method-items.result.now k c.method-item.result c.as_slice-method-items.ensures c.loop-number-test.true c.method-item.is) rows more was
    (at_place i class place c.word.result k _ c.loop-number.done _ c.in_ok-edit.edit c.word.ensures more looks))
    c.loop-number.invariant c.in_ok-edit.ensures.looked)

pub returns-clause-looked : goal.returns-clause-looked
returns-clause-looked g c =
    so_asks _ _ _ _ _ _ (all_looked (LooksAtMethod c.args.inliner.now c.args.class_place c.args.class.now) c.args.class.now.methods c.args.done.now c.loop-number.number (let l = c.loop-number-test.false in let e = ap length c.as_slice-method-items.ensures in omega (arith, l, e)) c.loop-number.row.items c.of_vec.result c.loop-number.done c.of_vec.ensures) c.loop-number.invariant
