use Rattle.std.proofs.Common.{ℕ, ◌+◌, ◌<◌, length}
use Rattle.std.specs.Prelude.{All, Contains}
use Rattle.std.specs.List.{sum_by}
use Rattle.fixpoint.specs.Rising.{Waits, Keeps}
use Rattle.fixpoint.proofs.worklist.solve.Given as goal

abbrev pub invariant-loop-node : goal.invariant-loop-node
invariant-loop-node g l = record {
  keeps : Keeps g.F.State.Lattice.below g.F.State.Domain.EXACT (g.F.Flow.stays l.flow) g.F.State.Lattice.least (g.F.Flow.graph l.flow) l.table.states.items l.table.waiting.items;
  queued : (n : ℕ) → Waits l.table.waiting.items n → Contains l.queue.items n;
  range : All (λ n. n < (g.F.Flow.graph l.flow).nodes) l.queue.items;
}

abbrev pub decreases-loop-node : goal.decreases-loop-node
decreases-loop-node g l = sum_by g.F.State.Domain.rank l.table.states.items + length l.queue.items
