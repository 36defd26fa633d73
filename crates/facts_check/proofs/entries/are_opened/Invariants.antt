use Rattle.std.proofs.Common.{◌≡◌, ℕ, ◌<◌, Some, true}
use Rattle.std.specs.Prelude.{slice_get}
use Rattle.facts_check.specs.Tables.{IsOpened}
use Rattle.facts_check.specs.Known.{AreKnown}
use Rattle.facts_check.proofs.entries.are_opened.Given as goal

abbrev pub invariant-loop-method : goal.invariant-loop-method
invariant-loop-method l = AreKnown l.known → (m : ℕ) → m < l.method → slice_get l.known.targets.now.entered.items m ≡ Some true → IsOpened l.known m
