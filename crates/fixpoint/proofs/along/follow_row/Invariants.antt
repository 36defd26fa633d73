use Rattle.std.proofs.Common.{take}
use Rattle.std.specs.Prelude.{All}
use Rattle.fixpoint.specs.Rising.{Rises, Done, Spends}
use Rattle.fixpoint.proofs.along.follow_row.Given as goal

abbrev pub invariant-loop-edge : goal.invariant-loop-edge
invariant-loop-edge g l = record {
  rises : Rises g.F.State.Lattice.below g.F.State.Domain.EXACT (g.F.Flow.stays l.flow) g.F.State.Lattice.least (g.F.Flow.graph l.flow) l.fn.table.states.items l.fn.table.waiting.items l.table.states.items l.table.waiting.items;
  done : All (Done g.F.State.Lattice.below g.F.State.Lattice.least (g.F.Flow.graph l.flow) l.table.states.items l.table.waiting.items) (take l.edge-index l.row);
  spends : Spends g.F.State.Domain.rank l.fn.table.states.items l.fn.table.waiting.items l.fn.joins.items l.table.states.items l.table.waiting.items l.joins.items l.joined;
}
