use Rattle.std.proofs.Common.{◌≡◌, map, take, drop, ◌++◌}
use Rattle.pipeline.specs.Silence.{marked, silenced_method}
use Rattle.pipeline.proofs.silent.silence_methods.Given as goal

abbrev pub invariant-loop-method : goal.invariant-loop-method
invariant-loop-method l = l.methods ≡ map (silenced_method (marked l.marks) l.admitted) (take l.method-index l.initial.methods) ++ drop l.method-index l.initial.methods
