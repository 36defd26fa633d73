use Rattle.std.proofs.Common.{◌≡◌, ℕ, [], length}
use Rattle.std.specs.Prelude.{slice_index_or}
use Rattle.copy_prop.proofs.stale.no_copies.Given as goal

abbrev pub invariant-loop : goal.invariant-loop
invariant-loop l = record {
  long : length l.table.items ≡ l.counter;
  empty : (n : ℕ) → slice_index_or l.table.items n [] ≡ [];
}
