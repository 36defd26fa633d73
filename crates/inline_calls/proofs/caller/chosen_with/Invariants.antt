use Rattle.std.proofs.Common.{◌≡◌, ◌<◌, ℕ, length}
use Rattle.splice.specs.Callees.{chosen_at}
use Rattle.inline_calls.proofs.caller.chosen_with.Given as goal

abbrev pub invariant-loop-place : goal.invariant-loop-place
invariant-loop-place l = record {
  long : length l.new.items ≡ l.place;
  same : (n : ℕ) → n < l.place → chosen_at l.new.items n ≡ chosen_at l.chosen n;
}
