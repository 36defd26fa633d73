use Rattle.std.proofs.Common.{◌≡◌, ◌+◌, suc, length, arith}
use Rattle.std.proofs.lemmas.Grind.{common_steps}
use Rattle.code_read.proofs.Rises.{count_zero, counted_first, count_le, few_rise, rises_all}
use Rattle.code_read.proofs.positions.counts_before.Goals as goal

pub loop-unit-init : goal.loop-unit-init
loop-unit-init c =
    let items = rw c.in_ok-before.ensures.items at c.in_ok-push.ensures.items in
    record {
      place = count_zero c.args.starts.now;
      many = grind (arith, common_steps);
      counted = counted_first _ _ items;
    }

pub next_count-place-requires-clause-rise : goal.next_count-place-requires-clause-rise
next_count-place-requires-clause-rise c = rises_all c.args.units c.args.starts.now (omega arith) c.requires

pub overflow_cast-place : goal.overflow_cast-place
overflow_cast-place c = omega (arith, c.next_count-place.ensures, count_le (suc c.loop-unit.unit) c.args.starts.now, few_rise c.args.units c.args.starts.now c.requires)
