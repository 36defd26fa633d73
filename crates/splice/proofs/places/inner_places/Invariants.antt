use Rattle.std.proofs.Common.{◌≡◌, ◌++◌, map, drop}
use Rattle.splice.specs.Places.{copy_size, places_from}
use Rattle.splice.proofs.places.inner_places.Given as goal

abbrev pub invariant-loop-insn : goal.invariant-loop-insn
invariant-loop-insn l = l.places.items ++ places_from l.place (map (copy_size l.taken) (drop l.insn-index l.insns)) ≡ places_from l.initial.place (map (copy_size l.taken) l.insns)
