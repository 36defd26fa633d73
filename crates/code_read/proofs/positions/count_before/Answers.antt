use Rattle.std.proofs.Common.{◌≡◌, ◌<◌, length, arith}
use Rattle.std.specs.Prelude.{slice_index_or}
use Rattle.code_read.specs.Positions.{count_below}
use Rattle.code_read.proofs.Rises.{few_rise, count_le, count_whole}
use Rattle.code_read.proofs.positions.count_before.Goals as goal

pub overflow_cast-result : goal.overflow_cast-result
overflow_cast-result c = omega (arith, few_rise (length c.args.places.now.units.now) c.args.places.now.starts.items c.args.places.now.starts_rise, c.args.places.now.few)

pub returns-then-unit-before-clause-inside : goal.returns-then-unit-before-clause-inside
returns-then-unit-before-clause-inside c =
    let lt = rw c.as_slice-before.ensures.value at c.if-unit-before.true in
    let e = c.args.places.now.counted.is c.args.unit lt in
    rw c.as_slice-before.ensures.value (omega (arith, e, count_le c.args.unit c.args.places.now.starts.items))

pub returns-else-unit-before-clause-is : goal.returns-else-unit-before-clause-is
returns-else-unit-before-clause-is c =
    let past = rw c.as_slice-before.ensures.value at c.if-unit-before.false in
    let all = count_whole (length c.args.places.now.units.now) c.args.unit c.args.places.now.starts.items c.args.places.now.starts_rise (omega (arith, past, c.args.places.now.covers)) in
    omega (arith, all)
