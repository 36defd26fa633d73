use Rattle.std.proofs.Common.{◌≡◌, ◌∙◌, ◌+◌, ◌≤◌, ℕ, List, min, length, drop, ap, sym, subst, refl, arith}
use Rattle.std.specs.Prelude.{Option, Some, slice_get}
use Rattle.dalvik_state.specs.declared.state.Waiting.{Waiting}
use Rattle.dalvik_state.specs.declared.state.Waiting.TheVariants as waiting
use Rattle.dalvik_steps.specs.Turns.{is_initialiser, left_in, Looks}
use Rattle.dalvik_steps.proofs.Looked.{left_place, looked_at, looked_past, looks_none}
use Rattle.dalvik_steps.proofs.Stacked.{drop_far}
use Rattle.dalvik_steps.proofs.starting.left_at.Goals as goal

pub returns-in-Some-Method : goal.returns-in-Some-Method
returns-in-Some-Method c =
    let look = c.in-Some-Method.ensures.lookup in
    let items = c.args.state.now.stack.items in
    looks_none c.args.state.now.statuses.items c.args.more (slice_get items c.args.place)
    (ap is_initialiser (looked_at items c.as_slice.result.now c.args.place c.in-Some-Method.field-0.now (waiting.Method c.in-Some-Method.field-0-0) c.as_slice.ensures.value look.1 look.3.0 c.in-Some-Method.field-0-is))

pub returns-in-Some-Ending : goal.returns-in-Some-Ending
returns-in-Some-Ending c =
    let look = c.in-Some-Ending.ensures.lookup in
    let items = c.args.state.now.stack.items in
    looks_none c.args.state.now.statuses.items c.args.more (slice_get items c.args.place)
    (ap is_initialiser (looked_at items c.as_slice.result.now c.args.place c.in-Some-Ending.field-0.now (waiting.Ending c.in-Some-Ending.field-0-0) c.as_slice.ensures.value look.1 look.3.0 c.in-Some-Ending.field-0-is))

pub returns-in-Some-Outside : goal.returns-in-Some-Outside
returns-in-Some-Outside c =
    let look = c.in-Some-Outside.ensures.lookup in
    let items = c.args.state.now.stack.items in
    looks_none c.args.state.now.statuses.items c.args.more (slice_get items c.args.place)
    (ap is_initialiser (looked_at items c.as_slice.result.now c.args.place c.in-Some-Outside.field-0.now (waiting.Outside c.in-Some-Outside.field-0-0 c.in-Some-Outside.field-0-1) c.as_slice.ensures.value look.1 look.3.0 c.in-Some-Outside.field-0-is))

pub returns-in-None : goal.returns-in-None
returns-in-None c =
    let items = c.args.state.now.stack.items in
    looks_none c.args.state.now.statuses.items c.args.more (slice_get items c.args.place)
    (ap is_initialiser (looked_past items c.as_slice.result.now c.args.place c.as_slice.ensures.value c.in-None.ensures.lookup.3))

pub returns-in-Some-Initialiser : goal.returns-in-Some-Initialiser
returns-in-Some-Initialiser c =
    let look = c.in-Some-Initialiser.ensures.lookup in
    let items = c.args.state.now.stack.items in
    let statuses = c.args.state.now.statuses.items in
    let class = c.in-Some-Initialiser.class in
    let above = c.in-Some-Initialiser.above in
    let next = c.in-Some-Initialiser.next in
    let there : slice_get items c.args.place ≡ Some (waiting.Initialiser class above next) =
    looked_at items c.as_slice.result.now c.args.place c.in-Some-Initialiser.field-0.now (waiting.Initialiser class above next) c.as_slice.ensures.value look.1 look.3.0 c.in-Some-Initialiser.field-0-is in
    let v = c.as_slice-in-Some-Initialiser.ensures.value in
    let count : c.len.result ≡ length above.items = omega arith in
    let few : length above.items ≤ 18446744073709551615 = omega arith in
    let from : c.saturating_add.result ≡ min (next + c.args.more) 18446744073709551615 = omega arith in
    let left = ap (drop c.left_of-left.result) (sym v) ∙ c.left_of-left.ensures ∙ ap (λ (ys : List ℕ). left_in statuses (drop c.saturating_add.result ys)) v
    ∙ ap (left_in statuses) (ap (λ (n : ℕ). drop n above.items) from ∙ drop_far above.items (next + c.args.more) few) in
    subst (λ (o : Option Waiting). Looks statuses c.args.more o (Some (class, c.rest_from.result))) (sym there)
    (record { rest = c.rest_from.result; is = refl; left = left_place above.items (left_in statuses (drop (next + c.args.more) above.items)) c.left_of-left.result c.len.result c.rest_from.result left count c.rest_from.ensures })
