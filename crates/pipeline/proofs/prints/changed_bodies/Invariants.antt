use Rattle.pipeline.specs.Passes.{AreWithin}
use Rattle.pipeline.proofs.prints.changed_bodies.Given as goal

abbrev pub invariant-loop-class : goal.invariant-loop-class
invariant-loop-class l = AreWithin l.marks.items l.admitted.methods.items
