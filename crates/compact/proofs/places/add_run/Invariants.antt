use Rattle.std.proofs.Common.{◌≡◌, ◌++◌}
use Rattle.compact.specs.Placed.{counted, IsTop}
use Rattle.compact.proofs.places.add_run.Given as goal

abbrev pub invariant-loop-step : goal.invariant-loop-step
invariant-loop-step l = record {
  numbers : l.places.numbers.items ≡ l.initial.places.numbers.items ++ counted l.number l.step;
  top : IsTop l.used l.initial.places.numbers.items l.initial.places.top → IsTop l.used l.places.numbers.items l.places.top;
}
