use Rattle.std.proofs.Common.{◌≡◌, ℕ, None, length}
use Rattle.std.specs.Prelude.{slice_index_or}
use Rattle.dalvik_lookups.proofs.graph.no_places.Given as goal

abbrev pub invariant-loop : goal.invariant-loop
invariant-loop l = record {
  size : length l.places.items ≡ l.counter;
  none : (n : ℕ) → slice_index_or l.places.items n None ≡ None;
}
