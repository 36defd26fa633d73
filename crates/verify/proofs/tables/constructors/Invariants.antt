use Rattle.std.proofs.Common.{◌≡◌, take, map}
use Rattle.std.specs.Prelude.{codes}
use Rattle.class_defs.specs.Members.{string_is}
use Rattle.verify.proofs.tables.constructors.Given as goal

abbrev pub invariant-loop-method : goal.invariant-loop-method
invariant-loop-method l = l.marks.items ≡ map (λ m. string_is l.program m.name (codes "<init>")) (take l.method-index l.program.methods)
