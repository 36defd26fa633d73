use Rattle.std.proofs.Common.{◌≡◌, ℕ, ◌<◌, length, slice_get}
use Rattle.walk_marks.specs.Walks.{row_of}
use Rattle.compact.specs.Ties.{write_list_at}
use Rattle.compact.proofs.writers.write_rows.Given as goal

abbrev pub invariant-loop-position : goal.invariant-loop-position
invariant-loop-position l = record {
  long : length l.rows.items ≡ l.position;
  rows : (n : ℕ) → n < l.position → row_of l.rows.items n ≡ write_list_at (slice_get l.body.insns n);
}
