use Rattle.std.proofs.Common.{◌≡◌, ◌∷◌, map, take}
use Rattle.dalvik_lookups.specs.Tables.{kind_in}
use Rattle.dalvik_lookups.proofs.graph.numbers_listed.Given as goal

abbrev pub invariant-loop-interface : goal.invariant-loop-interface
invariant-loop-interface l = record { listed : l.row.items ≡ (kind_in l.kinds l.class.superclass).base ∷ map (λ k. (kind_in l.kinds k).base) (take l.interface-index l.class.interfaces) }
