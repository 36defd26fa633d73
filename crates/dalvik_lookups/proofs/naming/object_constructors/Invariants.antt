use Rattle.std.proofs.Common.{◌≡◌, map, take}
use Rattle.dalvik_lookups.specs.Spelling.{is_constructor}
use Rattle.dalvik_lookups.proofs.naming.object_constructors.Given as goal

abbrev pub invariant-loop-method : goal.invariant-loop-method
invariant-loop-method l = record { marks : l.marks.items ≡ map (is_constructor l.program) (take l.method-index l.program.methods) }
