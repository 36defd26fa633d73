use Rattle.copy_prop.specs.Propagated.{AreSettled, IsPropagatedClass}
use Rattle.copy_prop.proofs.looking.has_stale_class.Given as goal

abbrev pub invariant-loop-class : goal.invariant-loop-class
invariant-loop-class l = AreSettled (IsPropagatedClass l.widths l.admitted) l.class-index l.classes
