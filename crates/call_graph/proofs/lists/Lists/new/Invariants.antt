use Rattle.std.proofs.Common.{◌≡◌, ℕ, [], length}
use Rattle.call_graph.specs.Lists.{row_in}
use Rattle.std.specs.Prelude.{slice_get}
use Rattle.call_graph.proofs.lists.Lists.new.Given as goal

abbrev pub invariant-loop-number : goal.invariant-loop-number
invariant-loop-number l = record {
  size : length l.rows.items ≡ l._number;
  blank : (n : ℕ) → row_in (slice_get l.rows.items n) ≡ [];
}
