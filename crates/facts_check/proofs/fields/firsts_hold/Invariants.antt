use Rattle.std.proofs.Common.{◌≡◌, ℕ, ◌<◌, Some}
use Rattle.std.specs.Prelude.{slice_get}
use Rattle.program_model.specs.declared.program.Class.{Class}
use Rattle.facts_check.specs.Tables.{AreHeld}
use Rattle.facts_check.proofs.fields.firsts_hold.Given as goal

abbrev pub invariant-loop-class : goal.invariant-loop-class
invariant-loop-class l = (c : ℕ) (class : Class) → c < l.class-index → slice_get l.known.program.now.classes c ≡ Some class → AreHeld l.known class.fields
