use Rattle.std.proofs.Common.{◌≡◌, ℕ, ◌<◌, None, take, length, nat_eq}
use Rattle.std.specs.Prelude.{position, slice_index_or}
use Rattle.dalvik_lookups.proofs.graph.set_all.Given as goal

abbrev pub invariant-loop-number : goal.invariant-loop-number
invariant-loop-number l = record {
  size : length l.places ≡ length l.fn.places;
  count : l.place ≡ l.number-index;
  placed : ((n : ℕ) → slice_index_or l.fn.places n None ≡ None) → (n : ℕ) → n < length l.fn.places → slice_index_or l.places n None ≡ position (nat_eq n) (take l.number-index l.numbers);
}
