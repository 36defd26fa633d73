use Rattle.std.proofs.Common.{◌≡◌, ℕ, ◌<◌, Some}
use Rattle.std.specs.Prelude.{slice_get}
use Rattle.program_model.specs.declared.program.Class.{Class}
use Rattle.facts_check.specs.Tables.{AreBare}
use Rattle.facts_check.specs.Known.{AreKnown}
use Rattle.facts_check.proofs.entries.all_bare.Given as goal

abbrev pub invariant-loop-class : goal.invariant-loop-class
invariant-loop-class l = AreKnown l.known → (c : ℕ) (class : Class) → c < l.class-index → slice_get l.known.program.now.classes c ≡ Some class → AreBare l.known class.methods
