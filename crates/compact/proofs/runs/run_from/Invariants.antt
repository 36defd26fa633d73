use Rattle.std.proofs.Common.{◌≡◌, ℕ, ◌+◌, ◌-◌, ◌<◌, ◌≤◌, true}
use Rattle.compact.specs.Ties.{has_some}
use Rattle.compact.proofs.runs.run_from.Given as goal

abbrev pub invariant-loop-size : goal.invariant-loop-size
invariant-loop-size l = record {
  some : 0 < l.size;
  within : l.at + l.size ≤ l.floor;
  tied : (i : ℕ) → i + 1 < l.size → has_some l.ties (l.at + i) ≡ true;
}

abbrev pub decreases-loop-size : goal.decreases-loop-size
decreases-loop-size l = l.floor - l.size
