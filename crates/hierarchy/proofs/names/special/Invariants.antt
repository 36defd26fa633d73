use Rattle.std.proofs.Common.{◌≡◌, map, take}
use Rattle.hierarchy.specs.Naming.{is_special}
use Rattle.hierarchy.proofs.names.special.Given as goal

abbrev pub invariant-loop-method : goal.invariant-loop-method
invariant-loop-method l = l.marks.items ≡ map (is_special l.program) (take l.method-index l.program.methods)
