use Rattle.std.proofs.Common.{◌≡◌, ◌++◌, drop}
use Rattle.hierarchy.specs.Placing.{known_places}
use Rattle.hierarchy.proofs.links.places_among.Given as goal

abbrev pub invariant-loop-kind : goal.invariant-loop-kind
invariant-loop-kind l = l.among ++ known_places l.places (drop l.kind-index l.kinds) ≡ known_places l.places l.kinds
