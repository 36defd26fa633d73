use Rattle.std.proofs.Common.{◌≡◌, map, take}
use Rattle.std.specs.Prelude.{slice_index_or}
use Rattle.hierarchy.proofs.links.superclasses.Given as goal

abbrev pub invariant-loop-class : goal.invariant-loop-class
invariant-loop-class l = l.supers.items ≡ map (λ c. slice_index_or l.places c.superclass 4294967295) (take l.class-index l.classes)
