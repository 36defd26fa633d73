use Rattle.std.proofs.Common.{◌≡◌, ◌<◌, ◌^◌, ℕ, length}
use Rattle.hierarchy.specs.Climbing.{IsCircle}
use Rattle.hierarchy.specs.Circling.{IsRising}
use Rattle.hierarchy.specs.Walking.{IsFair}
use Rattle.hierarchy.proofs.cycle.first_by_levels.Given as goal

abbrev pub invariant-loop-class : goal.invariant-loop-class
invariant-loop-class l = record {
  fair : IsFair l.walk;
  size : length l.walk.seen.items ≡ length l.supers;
  none : length l.supers < 2 ^ 32 → IsRising l.supers l.lists.rows l.levels → (c : ℕ) → c < l.class → IsCircle l.supers l.lists.rows c → ⊥;
}
