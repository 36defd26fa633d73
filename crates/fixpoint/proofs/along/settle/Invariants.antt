use Rattle.std.proofs.Common.{◌≡◌, ◌≤◌, length}
use Rattle.std.specs.List.{sum_by}
use Rattle.fixpoint.specs.Rising.{Keeps, itself, weight}
use Rattle.fixpoint.proofs.along.settle.Given as goal

abbrev pub invariant-loop-next : goal.invariant-loop-next
invariant-loop-next g l = record {
  keeps : Keeps g.F.State.Lattice.below g.F.State.Domain.EXACT (g.F.Flow.stays l.flow) g.F.State.Lattice.least (g.F.Flow.graph l.flow) l.table.states.items l.table.waiting.items;
  long : length l.joins.items ≡ (g.F.Flow.graph l.flow).nodes;
  no_rise : sum_by itself l.joins.items ≤ sum_by itself l.fn.joins.items;
}

abbrev pub decreases-loop-next : goal.decreases-loop-next
decreases-loop-next g l = weight g.F.State.Domain.rank l.table.states.items l.table.waiting.items
