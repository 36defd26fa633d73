use Rattle.std.proofs.Common.{◌≡◌, map, take, drop, ◌++◌}
use Rattle.program_model.specs.declared.program.Program.{Program}
use Rattle.staticise.specs.Ordering.{AreTargets}
use Rattle.staticise.specs.Loosened.{method_loosened}
use Rattle.staticise.proofs.loosening.Loosening.loosen_methods.Given as goal

abbrev pub invariant-loop-method : goal.invariant-loop-method
invariant-loop-method l = (p : Program) → AreTargets p l.self.given.now l.self.targets.now → l.methods ≡ map (method_loosened p l.self.given.now) (take l.method-index l.initial.methods) ++ drop l.method-index l.initial.methods
