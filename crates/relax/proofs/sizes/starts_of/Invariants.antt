use Rattle.std.proofs.Common.{◌≡◌, ◌<◌, ℕ, length, slice_index}
use Rattle.relax.specs.Sizes.{start}
use Rattle.relax.proofs.sizes.starts_of.Given as goal

abbrev pub invariant-loop-size : goal.invariant-loop-size
invariant-loop-size l = record {
  long : length l.starts.items ≡ l.size-index;
  at : l.at ≡ start l.sizes l.size-index;
  each : (k : ℕ) → k < l.size-index → slice_index l.starts.items k ≡ start l.sizes k;
}
