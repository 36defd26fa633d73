use Rattle.std.proofs.Common.{◌≡◌, ◌∙◌, ◌+◌, ◌≤◌, ◌++◌, List, length, take, ap, refl, arith}
use Rattle.std.specs.Prelude.{vec_capacity, vec_len}
use Rattle.dalvik_state.specs.declared.state.Waiting.{Waiting}
use Rattle.dalvik_steps.specs.Turns.{turn_entries}
use Rattle.dalvik_steps.proofs.Stacked.{turn_left}
use Rattle.dalvik_steps.proofs.starting.stands.Goals as goal

pub returns-clause-ok : goal.returns-clause-ok
returns-clause-ok c = λ l steps script r run on low turn.
    let old = c.args.state.now in
    let o = c.args.frame in
    let cut = c.truncate.new.self in
    let h = c.in_ok-reserve.ensures.ok in
    let a = c.truncate.ensures.len in
    let b = c.truncate.ensures.capacity in
    let room : vec_len cut + 2 ≤ vec_capacity cut = omega (arith, h, a, b) in
    let e : c.runs.new.stack.items ≡ take c.args.count old.stack.items ++ turn_entries c.args.class o = c.runs.ensures room ∙ ap (λ (xs : List Waiting). xs ++ turn_entries c.args.class o) (c.truncate.ensures.items ∙ ap (take c.args.count) c.reserve.ensures.items) in
    turn_left l r steps script old run on _ c.args.count c.args.class o (record { world = refl; statuses = refl; next = refl; ended = refl }) low turn e
