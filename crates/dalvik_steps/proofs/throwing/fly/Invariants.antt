use Rattle.std.proofs.Common.{ℕ, ◌≤◌, length, take}
use Rattle.std.specs.Prelude.{reverse}
use Rattle.dalvik_defs.specs.State.{World}
use Rattle.dalvik_defs.specs.declared.state.Value.{Value}
use Rattle.dalvik_lookups.specs.Walks.{IsKept}
use Rattle.dalvik_state.specs.Giving.{IsGiven}
use Rattle.dalvik_state.specs.Runs.{IsRun}
use Rattle.dalvik_steps.specs.Flights.{IsCourse, IsFlying}
use Rattle.dalvik_steps.proofs.throwing.fly.Given as goal

abbrev pub invariant-loop-place : goal.invariant-loop-place
invariant-loop-place l = record {
  low : l.place ≤ l.top;
  kept : (steps : ℕ) (w : World) (v : Value) → IsRun l.tables.lookups l.fn.memo steps l.state → IsGiven l.tables.lookups l.state.world l.gifts → IsFlying l.tables.lookups l.state.world l.gifts w v l.fn.flying → l.top ≤ length l.state.stack.items → IsKept l.tables.lookups l.memo;
  course : (steps : ℕ) (w : World) (v : Value) → IsRun l.tables.lookups l.fn.memo steps l.state → IsGiven l.tables.lookups l.state.world l.gifts → IsFlying l.tables.lookups l.state.world l.gifts w v l.fn.flying → l.top ≤ length l.state.stack.items
      → IsCourse l.tables.lookups l.state.world l.gifts w v (reverse (take l.top l.state.stack.items)) (reverse (take l.place l.state.stack.items)) l.course;
}

abbrev pub decreases-loop-place : goal.decreases-loop-place
decreases-loop-place l = l.place
