use Rattle.std.proofs.Common.{◌≡◌, ◌+◌, ℕ, length}
use Rattle.hierarchy.specs.Walking.{waits, IsFair}
use Rattle.dalvik_lookups.specs.Listing.{left, Climbs}
use Rattle.dalvik_lookups.specs.Reached.{touches_at}
use Rattle.dalvik_lookups.specs.Tables.{IsRight}
use Rattle.dalvik_lookups.proofs.lookups.Lookups.climb_out.Given as goal

abbrev pub invariant-loop-one : goal.invariant-loop-one
invariant-loop-one l = record {
  fair : IsFair l.fn.walk → IsFair l.walk;
  size : length l.walk.seen.items ≡ length l.fn.walk.seen.items;
  climbs : (class : ℕ) → IsRight l.self → Climbs l.self.program.now class (touches_at l.self.program.now) l.fn.walk.seen.items (waits l.fn.walk) → Climbs l.self.program.now class (touches_at l.self.program.now) l.walk.seen.items (waits l.walk);
}

abbrev pub decreases-loop-one : goal.decreases-loop-one
decreases-loop-one l = left l.walk.seen.items + length (waits l.walk)
