use Rattle.std.proofs.Common.{◌≡◌, map, take}
use Rattle.dalvik_lookups.specs.Rows.{outer_number}
use Rattle.dalvik_lookups.proofs.graph.outer_numbers.Given as goal

abbrev pub invariant-loop-number : goal.invariant-loop-number
invariant-loop-number l = record { outer : l.out.items ≡ map (outer_number l.class_of) (take l.number-index l.row) }
