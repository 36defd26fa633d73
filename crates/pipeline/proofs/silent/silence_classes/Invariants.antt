use Rattle.std.proofs.Common.{◌≡◌, map, take, drop, ◌++◌}
use Rattle.pipeline.specs.Silence.{marked, silenced_class}
use Rattle.pipeline.proofs.silent.silence_classes.Given as goal

abbrev pub invariant-loop-class : goal.invariant-loop-class
invariant-loop-class l = l.classes ≡ map (silenced_class (marked l.marks) l.admitted) (take l.class-index l.initial.classes) ++ drop l.class-index l.initial.classes
