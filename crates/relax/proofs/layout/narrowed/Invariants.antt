use Rattle.std.proofs.Common.{◌≡◌, ◌<◌, ℕ, length, slice_index}
use Rattle.relax.specs.Payloads.{capped_place}
use Rattle.relax.proofs.layout.narrowed.Given as goal

abbrev pub invariant-loop-at : goal.invariant-loop-at
invariant-loop-at l = record {
  long : length l.narrow.items ≡ l.at;
  each : (k : ℕ) → k < l.at → slice_index l.narrow.items k ≡ capped_place (slice_index l.starts k);
}
