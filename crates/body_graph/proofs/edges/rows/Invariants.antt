use Rattle.std.proofs.Common.{◌≡◌, ℕ, ◌+◌, ◌<◌, length}
use Rattle.walk_marks.specs.Walks.{row_of}
use Rattle.body_graph.specs.Graph.{node_row}
use Rattle.body_graph.proofs.edges.rows.Given as goal

abbrev pub invariant-loop-position : goal.invariant-loop-position
invariant-loop-position l = record {
  long : length l.rows.items ≡ l.position;
  rows : (n : ℕ) → n < l.position → row_of l.rows.items n ≡ node_row l.body n;
}

abbrev pub invariant-loop-region : goal.invariant-loop-region
invariant-loop-region l = record {
  long : length l.rows.items ≡ length l.body.insns + l.region-index;
  rows : (n : ℕ) → n < length l.body.insns + l.region-index → row_of l.rows.items n ≡ node_row l.body n;
}
