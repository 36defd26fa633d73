use Rattle.std.proofs.Common.{◌≡◌, ◌≤◌, min, length}
use Rattle.verify.specs.Flow.{greatest}
use Rattle.verify.specs.Methods.{AllBelow}
use Rattle.verify.specs.Supers.{Serves}
use Rattle.verify.proofs.typed.Verifier.verify_all.Given as goal

abbrev pub invariant-loop-class : goal.invariant-loop-class
invariant-loop-class l = record {
  below : length l.self.program.now.classes ≤ greatest → AllBelow l.self l.class-index;
  serves : Serves l.self.hierarchy.now l.scratch.walk;
  at : l.at ≡ min l.class-index greatest;
}
