use Rattle.std.proofs.Common.{◌≡◌, ◌+◌, ◌-◌, ◌<◌, ◌≤◌, length, drop, take, ap, arith}
use Rattle.dalvik_steps.proofs.Falling.{below_long}
use Rattle.dalvik_steps.proofs.throwing.unwind.Goals as goal

pub loop-state-preserved : goal.loop-state-preserved
loop-state-preserved c = λ l steps script all to r t h.
    let low : c.args.place + 1 < length c.loop-state.state.stack.items = omega arith in
    c.fall-flown.ensures.falls l steps script all to c.args.place r t low (c.loop-state.invariant l steps script all to r t h)

pub returns : goal.returns
returns c = λ l steps script all to r t h.
    let low : length c.loop-state.state.stack.items ≤ c.args.place + 1 = omega arith in
    record { more = drop c.loop-state.flown.0 c.args.wraps.now; falls = c.loop-state.invariant l steps script all to r t h; low = low }

pub loop-state-smaller : goal.loop-state-smaller
loop-state-smaller c =
    let items = c.loop-state.state.stack.items in
    let cut = ap length c.fall-flown.ensures.stack in
    let count : length (take (length items - 1) items) ≡ length items - 1 = below_long items (length items - 1) (omega arith) in
    omega (arith, cut, count)
