use Rattle.std.proofs.Common.{◌≡◌, ℕ, ◌<◌, ◌≤◌, true}
use Rattle.compact.specs.Ties.{has_some}
use Rattle.compact.proofs.runs.floor_of.Given as goal

abbrev pub invariant-loop-floor : goal.invariant-loop-floor
invariant-loop-floor l = record {
  low : l.floor ≤ l.locals;
  tied : (r : ℕ) → l.floor ≤ r → r < l.locals → has_some l.ties r ≡ true;
}

abbrev pub decreases-loop-floor : goal.decreases-loop-floor
decreases-loop-floor l = l.floor
