use Rattle.copy_prop.specs.Propagated.{AreEdited, IsPropagatedClass}
use Rattle.copy_prop.proofs.pass.propagate_classes.Given as goal

abbrev pub invariant-loop-place : goal.invariant-loop-place
invariant-loop-place l = AreEdited (IsPropagatedClass l.widths l.admitted) l.place l.count l.initial.classes l.classes
