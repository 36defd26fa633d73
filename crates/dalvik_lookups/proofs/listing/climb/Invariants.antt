use Rattle.std.proofs.Common.{◌≡◌, ◌+◌, ℕ, length}
use Rattle.hierarchy.specs.Shapes.{IsOf}
use Rattle.hierarchy.specs.Walking.{waits, IsFair}
use Rattle.dalvik_lookups.specs.Listing.{lists_at, left, Climbs}
use Rattle.dalvik_lookups.proofs.listing.climb.Given as goal

abbrev pub invariant-loop-one : goal.invariant-loop-one
invariant-loop-one l = record {
  fair : IsFair l.fn.walk → IsFair l.walk;
  size : length l.walk.seen.items ≡ length l.fn.walk.seen.items;
  climbs : (class : ℕ) → IsOf l.program l.hierarchy → Climbs l.program class (lists_at l.program l.kind) l.fn.walk.seen.items (waits l.fn.walk) → Climbs l.program class (lists_at l.program l.kind) l.walk.seen.items (waits l.walk);
}

abbrev pub decreases-loop-one : goal.decreases-loop-one
decreases-loop-one l = left l.walk.seen.items + length (waits l.walk)
