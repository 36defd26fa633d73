use Rattle.copy_prop.specs.Propagated.{AreSettled, IsPropagatedMethod}
use Rattle.copy_prop.proofs.looking.has_stale_method.Given as goal

abbrev pub invariant-loop-method : goal.invariant-loop-method
invariant-loop-method l = AreSettled (IsPropagatedMethod l.widths l.admitted) l.method-index l.methods
