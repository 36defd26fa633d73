use Rattle.std.proofs.Common.{◌≡◌, ℕ, ◌<◌, length, replicate, true}
use Rattle.std.specs.Prelude.{slice_index_or}
use Rattle.fixpoint.proofs.rising.begin.Given as goal

abbrev pub invariant-loop-node : goal.invariant-loop-node
invariant-loop-node g l = record {
  long : length l.states.items ≡ l.node;
  is : (k : ℕ) → k < l.node → slice_index_or l.states.items k g.F.State.Lattice.least ≡ (g.F.Flow.graph l.flow).begun k;
  all : l.waiting.items ≡ replicate l.node true;
}
