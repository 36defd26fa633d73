use Rattle.std.proofs.Common.{◌≡◌, ℕ, ◌<◌, [], length}
use Rattle.std.specs.Prelude.{slice_index_or}
use Rattle.vague_facts.specs.Counting.{ComesTo}
use Rattle.vague_facts.proofs.frames.all_frames.Given as goal

abbrev pub invariant-loop-count : goal.invariant-loop-count
invariant-loop-count l = record {
  long : length l.frames.items ≡ l.count-index;
  come : (n : ℕ) → n < l.count-index → ComesTo l.registers (slice_index_or l.counts n 0) (slice_index_or l.frames.items n []);
}
