use Rattle.std.proofs.Common.{◌≡◌, ℕ, true, false, take, length}
use Rattle.std.specs.Prelude.{slice_index_or, Contains}
use Rattle.dalvik_lookups.proofs.marks.unmark_all.Given as goal

abbrev pub invariant-loop-number : goal.invariant-loop-number
invariant-loop-number l = record {
  size : length l.marks ≡ length l.fn.marks;
  unmarked : (n : ℕ) → slice_index_or l.marks n false ≡ true → (slice_index_or l.fn.marks n false ≡ true) × (Contains (take l.number-index l.numbers) n → ⊥);
}
