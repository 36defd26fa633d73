use Rattle.std.proofs.Common.{◌≡◌, ℕ, ◌<◌, Some, true}
use Rattle.std.specs.Prelude.{slice_get}
use Rattle.facts_check.specs.Known.{is_marked}
use Rattle.facts_check.proofs.classes.are_on.Given as goal

abbrev pub invariant-loop-number : goal.invariant-loop-number
invariant-loop-number l = (i n : ℕ) → i < l.number-index → slice_get l.numbers i ≡ Some n → is_marked l.marks n ≡ true
