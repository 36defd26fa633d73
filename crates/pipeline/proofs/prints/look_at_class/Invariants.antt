use Rattle.pipeline.specs.Passes.{AreWithin}
use Rattle.pipeline.proofs.prints.look_at_class.Given as goal

abbrev pub invariant-loop-method : goal.invariant-loop-method
invariant-loop-method l = AreWithin l.marks l.admitted
