use Rattle.dex_write.proofs.OrderLemmas.{PlacesSoFar}
use Rattle.dex_write.proofs.class_order.places_of.Given as goal

abbrev pub invariant-loop-place : goal.invariant-loop-place
invariant-loop-place l = PlacesSoFar l.program l.place l.places.items
