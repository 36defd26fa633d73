use Rattle.std.proofs.Common.{◌≡◌, ℕ, Some}
use Rattle.std.specs.Prelude.{slice_get}
use Rattle.program_model.specs.declared.program.Class.{Class}
use Rattle.program_model.specs.declared.program.Program.{Program}
use Rattle.hierarchy.specs.Shapes.{IsOf}
use Rattle.staticise.specs.Loosened.{AreEdited, IsLoosenedClass}
use Rattle.staticise.specs.Ordering.{AreTargets, AreOwn}
use Rattle.staticise.proofs.loosening.Loosening.loosen_classes.Given as goal

abbrev pub invariant-loop-place : goal.invariant-loop-place
invariant-loop-place l = (p : Program) → AreTargets p l.self.given.now l.self.targets.now → IsOf p l.self.hierarchy.now
    → ((k : ℕ) (c : Class) → slice_get l.initial.classes k ≡ Some c → AreOwn c.methods) → AreEdited (IsLoosenedClass p l.self.given.now) l.place l.initial.classes l.classes
