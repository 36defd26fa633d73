use Rattle.std.proofs.Common.{◌≡◌, ◌<◌, ℕ, length, take}
use Rattle.std.specs.List.{flat_map}
use Rattle.call_graph.specs.Lists.{row_of, size_of}
use Rattle.call_graph.specs.Tables.{method_if}
use Rattle.call_graph.proofs.tables.methods_by_class.Given as goal

abbrev pub invariant-loop-number : goal.invariant-loop-number
invariant-loop-number l = record {
  size : size_of l.lists ≡ length l.program.types;
  rows : (n : ℕ) → n < length l.program.types → row_of l.lists n ≡ flat_map (method_if l.program n) (take l.number-index l.outside.methods_if);
}
