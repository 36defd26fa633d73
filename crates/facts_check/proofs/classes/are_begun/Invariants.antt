use Rattle.std.proofs.Common.{◌≡◌, ℕ, ◌<◌, Some, true}
use Rattle.std.specs.Prelude.{slice_get}
use Rattle.facts_check.specs.Tables.{is_needed}
use Rattle.facts_check.proofs.classes.are_begun.Given as goal

abbrev pub invariant-loop-class : goal.invariant-loop-class
invariant-loop-class l = (c : ℕ) → c < l.class → slice_get l.known.targets.now.begun.items c ≡ Some true → is_needed l.known c ≡ true
