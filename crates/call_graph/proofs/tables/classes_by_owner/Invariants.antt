use Rattle.std.proofs.Common.{◌≡◌, ◌<◌, ℕ, length, take}
use Rattle.std.specs.List.{flat_map}
use Rattle.call_graph.specs.Lists.{row_of, size_of}
use Rattle.call_graph.specs.Tables.{class_if}
use Rattle.call_graph.proofs.tables.classes_by_owner.Given as goal

abbrev pub invariant-loop-one : goal.invariant-loop-one
invariant-loop-one l = record {
  size : size_of l.lists ≡ length l.program.types;
  rows : (n : ℕ) → n < length l.program.types → row_of l.lists n ≡ flat_map (class_if n) (take l.one-index l.outside.classes_if);
}
