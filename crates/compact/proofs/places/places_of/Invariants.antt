use Rattle.std.proofs.Common.{◌≤◌, ◌-◌, length}
use Rattle.compact.specs.Placed.{Placed}
use Rattle.compact.proofs.places.places_of.Given as goal

abbrev pub invariant-runs : goal.invariant-runs
invariant-runs l = record {
  within : length l.places.numbers.items ≤ l.floor;
  placed : Placed l.clash l.ties l.used l.places.numbers.items l.places.top;
}

abbrev pub decreases-runs : goal.decreases-runs
decreases-runs l = l.floor - length l.places.numbers.items
