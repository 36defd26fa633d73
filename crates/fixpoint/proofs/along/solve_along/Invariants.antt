use Rattle.std.proofs.Common.{◌≡◌, length}
use Rattle.std.specs.List.{sum_by}
use Rattle.fixpoint.specs.Rising.{Keeps, itself}
use Rattle.fixpoint.proofs.along.solve_along.Given as goal

abbrev pub invariant-loop-table : goal.invariant-loop-table
invariant-loop-table g l = record {
  keeps : Keeps g.F.State.Lattice.below g.F.State.Domain.EXACT (g.F.Flow.stays l.flow) g.F.State.Lattice.least (g.F.Flow.graph l.flow) l.table.states.items l.table.waiting.items;
  long : length l.joins.items ≡ (g.F.Flow.graph l.flow).nodes;
}

abbrev pub decreases-loop-table : goal.decreases-loop-table
decreases-loop-table g l = sum_by itself l.joins.items
