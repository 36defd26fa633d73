use Rattle.copy_prop.specs.Propagated.{AreEdited, IsPropagatedMethod}
use Rattle.copy_prop.proofs.pass.propagate_methods.Given as goal

abbrev pub invariant-loop-place : goal.invariant-loop-place
invariant-loop-place l = AreEdited (IsPropagatedMethod l.widths l.admitted) l.place l.count l.initial.methods l.methods
