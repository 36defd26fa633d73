use Rattle.std.proofs.Common.{◌≡◌, map, take}
use Rattle.dalvik_lookups.specs.Tables.{kind_in}
use Rattle.dalvik_lookups.proofs.lookups.class_kinds.Given as goal

abbrev pub invariant-loop-class : goal.invariant-loop-class
invariant-loop-class l = record { own : l.own.items ≡ map (λ c. kind_in l.kinds c.name) (take l.class-index l.program.classes) }
