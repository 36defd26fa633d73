use Rattle.std.proofs.Common.{◌≡◌, ℕ, ◌<◌, true}
use Rattle.walk_marks.specs.Walks.{is_on}
use Rattle.compact.proofs.places.first_clear.Given as goal

abbrev pub invariant-loop-place : goal.invariant-loop-place
invariant-loop-place l = (y : ℕ) → y < l.place → is_on l.marks y ≡ true
