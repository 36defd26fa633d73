use Rattle.std.proofs.Common.{◌≡◌, map, take}
use Rattle.hierarchy.specs.Shapes.{IsOf}
use Rattle.dalvik_lookups.specs.Starting.{class_default}
use Rattle.dalvik_lookups.proofs.starts.defaults.Given as goal

abbrev pub invariant-loop-class : goal.invariant-loop-class
invariant-loop-class l = record { marks : IsOf l.program l.hierarchy → l.marks.items ≡ map (class_default l.program) (take l.class-index l.program.classes) }
