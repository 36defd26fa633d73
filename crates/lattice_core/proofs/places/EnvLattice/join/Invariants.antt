use Rattle.lattice_core.specs.Places.{Joins}
use Rattle.lattice_core.proofs.places.EnvLattice.join.Given as goal

abbrev pub invariant-loop-i : goal.invariant-loop-i
invariant-loop-i g l = Joins g.L.Lattice.below g.L.Lattice.joined g.L.Lattice.least l.self-inside.items.items l.other-inside.items.items l.i l.items.items
