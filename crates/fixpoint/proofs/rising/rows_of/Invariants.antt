use Rattle.std.proofs.Common.{◌≡◌, ℕ, length, []}
use Rattle.std.specs.Prelude.{slice_index_or}
use Rattle.fixpoint.specs.Rising.{AreRows}
use Rattle.fixpoint.proofs.rising.rows_of.Given as goal

abbrev pub invariant-loop : goal.invariant-loop
invariant-loop g l = record {
  long : length l.rows.items ≡ l.counter;
  empty : (n : ℕ) → slice_index_or l.rows.items n [] ≡ [];
}

abbrev pub invariant-loop-e : goal.invariant-loop-e
invariant-loop-e g l = AreRows (g.F.Flow.graph l.flow) l.e l.rows.items
