use Rattle.flow_cfg.proofs.Listed.{PlacesSoFar}
use Rattle.flow_cfg.proofs.listing.places_of.Given as goal

abbrev pub invariant-loop-node : goal.invariant-loop-node
invariant-loop-node l = PlacesSoFar l.order l.places.items l.place l.node-index
