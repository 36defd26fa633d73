use Rattle.std.proofs.Common.{◌≡◌, ℕ, [], length}
use Rattle.std.specs.Prelude.{slice_get}
use Rattle.call_targets.specs.Called.{row_in}
use Rattle.call_targets.proofs.named.empty_lists.Given as goal

abbrev pub invariant-loop-number : goal.invariant-loop-number
invariant-loop-number l = record {
  long : length l.lists.items ≡ l._number;
  empty : (kind : ℕ) → row_in (slice_get l.lists.items kind) ≡ [];
}
