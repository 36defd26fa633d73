use Rattle.std.proofs.Common.{◌≡◌, ℕ, ◌<◌, true, length}
use Rattle.std.specs.Prelude.{slice_index_or}
use Rattle.vague_facts.proofs.live.all_on.Given as goal

abbrev pub invariant-loop-at : goal.invariant-loop-at
invariant-loop-at l = record {
  long : length l.marks.items ≡ length l.fn.marks.items;
  on : (n : ℕ) → n < l.at → slice_index_or l.marks.items n true ≡ true;
}
