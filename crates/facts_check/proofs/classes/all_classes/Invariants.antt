use Rattle.std.proofs.Common.{◌≡◌, ℕ, ◌<◌, Some}
use Rattle.std.specs.Prelude.{slice_get}
use Rattle.program_model.specs.declared.program.Class.{Class}
use Rattle.facts_check.specs.Tables.{IsStarted}
use Rattle.facts_check.specs.Known.{AreKnown}
use Rattle.facts_check.proofs.classes.all_classes.Given as goal

abbrev pub invariant-loop-place : goal.invariant-loop-place
invariant-loop-place l = AreKnown l.known → (c : ℕ) (class : Class) → c < l.place → slice_get l.known.program.now.classes c ≡ Some class → IsStarted l.known c class
