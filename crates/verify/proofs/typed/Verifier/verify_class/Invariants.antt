use Rattle.std.proofs.Common.{take}
use Rattle.std.specs.Prelude.{All}
use Rattle.verify.specs.Methods.{HasTypings}
use Rattle.verify.specs.Supers.{Serves}
use Rattle.verify.proofs.typed.Verifier.verify_class.Given as goal

abbrev pub invariant-loop-method : goal.invariant-loop-method
invariant-loop-method l = record {
  serves : Serves l.self.hierarchy.now l.fn.scratch.walk → Serves l.self.hierarchy.now l.scratch.walk;
  types : Serves l.self.hierarchy.now l.fn.scratch.walk → All (HasTypings l.self l.class l.at) (take l.method-index l.class.methods);
}
