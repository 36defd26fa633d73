use Rattle.std.proofs.Common.{◌≡◌, ◌<◌, ◌≤◌, length, get_or, sym, arith}
use Rattle.code_read.proofs.Rises.{found_in, not_found_in}
use Rattle.code_read.proofs.positions.position_at.Goals as goal
use Rattle.code_read.proofs.positions.position_at.Goals.{else-at-starts-via-then-at-starts+else-from-unit, else-at-starts-via-else-at-starts}

pub returns-then-from-unit-clause-is : goal.returns-then-from-unit-clause-is
returns-then-from-unit-clause-is c =
    let v = c.as_slice-starts.ensures.value in
    let lt = rw v at c.if-at-starts.true in
    let from = rw v at c.from.ensures in
    found_in c.args.places.now.starts.items c.args.unit c.count_before-place.result c.count_before-place.ensures.is lt (omega (arith, from, c.if-from-unit.true))

pub returns-else-at-starts-clause-is : goal.returns-else-at-starts-clause-is
returns-else-at-starts-clause-is c =
    let v = c.as_slice-starts.ensures.value in
    not_found_in (length c.args.places.now.units.now) c.args.places.now.starts.items c.args.unit c.count_before-place.result c.args.places.now.starts_rise c.count_before-place.ensures.is
    (elim c.else-at-starts.branch [
      | else-at-starts-via-then-at-starts+else-from-unit w ↦ λ lt at. let from = rw v at w.from.ensures in w.if-from-unit.false (omega (arith, from, at))
      | else-at-starts-via-else-at-starts w ↦ λ lt at. let past = rw v at w.if-at-starts.false in omega (arith, lt, past)
    ])
