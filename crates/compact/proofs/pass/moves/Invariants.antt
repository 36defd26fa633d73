use Rattle.std.proofs.Common.{◌≡◌, ℕ, ◌<◌, true}
use Rattle.std.specs.Prelude.{slice_index}
use Rattle.walk_marks.specs.Walks.{is_on}
use Rattle.compact.proofs.pass.moves.Given as goal

abbrev pub invariant-loop-register : goal.invariant-loop-register
invariant-loop-register l = (q : ℕ) → q < l.register → is_on l.used q ≡ true → slice_index l.numbers.low.items q ≡ q
