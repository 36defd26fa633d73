use Rattle.std.proofs.Common.{◌≡◌, map, take}
use Rattle.stub_library.specs.Stubs.{class_of}
use Rattle.stub_library.proofs.reading.library_of.Given as goal

abbrev pub invariant-loop-class : goal.invariant-loop-class
invariant-loop-class l = l.classes.items ≡ map (class_of l.program) (take l.class-index l.program.classes)
