use Rattle.class_places.specs.Known.{ArePlaces}
use Rattle.class_places.proofs.known.places_of.Given as goal

abbrev pub invariant-loop-kind : goal.invariant-loop-kind
invariant-loop-kind l = ArePlaces l.hierarchy l.kind l.places.items
