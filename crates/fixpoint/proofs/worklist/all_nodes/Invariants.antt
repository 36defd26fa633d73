use Rattle.std.proofs.Common.{ℕ, ◌<◌}
use Rattle.std.specs.Prelude.{All, Contains}
use Rattle.fixpoint.proofs.worklist.all_nodes.Given as goal

abbrev pub invariant-loop-node : goal.invariant-loop-node
invariant-loop-node l = record {
  all : (k : ℕ) → k < l.node → Contains l.queue.items k;
  range : All (λ k. k < l.nodes) l.queue.items;
}
