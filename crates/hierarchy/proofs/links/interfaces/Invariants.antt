use Rattle.std.proofs.Common.{◌≡◌, map, take}
use Rattle.hierarchy.specs.Placing.{known_places}
use Rattle.hierarchy.proofs.links.interfaces.Given as goal

abbrev pub invariant-loop-class : goal.invariant-loop-class
invariant-loop-class l = l.rows ≡ map (λ c. known_places l.places c.interfaces) (take l.class-index l.classes)
