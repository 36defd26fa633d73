use Rattle.std.proofs.Common.{◌≡◌, ℕ, true, false, take, vec_len}
use Rattle.std.specs.Prelude.{slice_index_or, Contains}
use Rattle.call_targets.proofs.marks.Marks.clear.Given as goal

abbrev pub invariant-loop-number : goal.invariant-loop-number
invariant-loop-number l = record {
  size : vec_len l.self.marks ≡ vec_len l.fn.self.marks;
  idle : l.self.waiting ≡ l.fn.self.waiting;
  unmarked : (n : ℕ) → slice_index_or l.self.marks.items n false ≡ true → (slice_index_or l.fn.self.marks.items n false ≡ true) × (Contains (take l.number-index l.numbers) n → ⊥);
}
