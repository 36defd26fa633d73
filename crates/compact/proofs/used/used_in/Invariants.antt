use Rattle.std.proofs.Common.{◌≡◌, ℕ, ◌<◌, length}
use Rattle.walk_marks.specs.Walks.{is_on}
use Rattle.compact.specs.Packed.{is_used}
use Rattle.compact.proofs.used.used_in.Given as goal

abbrev pub invariant-loop-register : goal.invariant-loop-register
invariant-loop-register l = record {
  long : length l.used.items ≡ l.register;
  are : (r : ℕ) → r < l.register → is_on l.used.items r ≡ is_used l.body r;
}
