use Rattle.std.proofs.Common.{◌≡◌, ◌++◌, drop}
use Rattle.splice.specs.Places.{sizes_from, places_from, places_of}
use Rattle.splice.proofs.places.places_of.Given as goal

abbrev pub invariant-loop-position : goal.invariant-loop-position
invariant-loop-position l = l.places.items ++ places_from l.place (sizes_from l.program l.chosen l.shift l.insns l.position (drop l.position l.insns)) ≡ places_of l.program l.chosen l.shift l.insns
