use Rattle.std.proofs.Common.{◌≡◌, ◌++◌, map, take}
use Rattle.std.specs.List.{concat}
use Rattle.dalvik_defs.specs.Naming.{type_at}
use Rattle.dalvik_lookups.proofs.naming.spell_types.Given as goal

abbrev pub invariant-loop-one : goal.invariant-loop-one
invariant-loop-one l = record { out : l.out.items ≡ l.fn.out.items ++ concat (map (type_at l.program) (take l.one-index l.types)) }
