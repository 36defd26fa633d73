use Rattle.std.proofs.Common.{◌≡◌, ℕ, ◌<◌, length}
use Rattle.walk_marks.specs.Walks.{row_of}
use Rattle.compact.specs.Clashes.{hits_of}
use Rattle.compact.proofs.clash.hit_rows.Given as goal

abbrev pub invariant-loop-register : goal.invariant-loop-register
invariant-loop-register l = record {
  long : length l.rows.items ≡ l.register;
  rows : (r : ℕ) → r < l.register → row_of l.rows.items r ≡ hits_of l.live l.insns l.names (row_of l.writers r);
}
