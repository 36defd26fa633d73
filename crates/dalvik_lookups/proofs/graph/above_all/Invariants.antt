use Rattle.std.proofs.Common.{◌≡◌, ℕ, ◌<◌, length}
use Rattle.dalvik_lookups.specs.Tables.{row_in}
use Rattle.dalvik_lookups.specs.Rows.{above_numbers}
use Rattle.dalvik_lookups.proofs.graph.above_all.Given as goal

abbrev pub invariant-loop-number : goal.invariant-loop-number
invariant-loop-number l = record {
  size : length l.above.items ≡ l.number;
  rows : (n : ℕ) → n < l.number → row_in l.above.items n ≡ above_numbers l.program l.names l.rows l.placed.items n;
}
