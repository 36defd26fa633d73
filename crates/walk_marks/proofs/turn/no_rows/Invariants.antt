use Rattle.std.proofs.Common.{◌≡◌, ℕ, [], length}
use Rattle.walk_marks.specs.Walks.{row_of}
use Rattle.walk_marks.proofs.turn.no_rows.Given as goal

abbrev pub invariant-loop : goal.invariant-loop
invariant-loop l = record {
  long : length l.rows.items ≡ l.counter;
  empty : (n : ℕ) → row_of l.rows.items n ≡ [];
}
