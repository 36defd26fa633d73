use Rattle.std.proofs.Common.{◌≡◌, ◌<◌, ℕ, false, take, nat_eq, vec_len}
use Rattle.std.specs.Prelude.{slice_index_or}
use Rattle.std.specs.List.{list_any}
use Rattle.call_graph.proofs.tables.marked.Given as goal

abbrev pub invariant-loop-number : goal.invariant-loop-number
invariant-loop-number l = record {
  size : vec_len l.marks ≡ l.size;
  marked : (n : ℕ) → n < l.size → slice_index_or l.marks.items n false ≡ list_any (nat_eq n) (take l.number-index l.numbers);
}
