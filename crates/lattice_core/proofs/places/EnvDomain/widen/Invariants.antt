use Rattle.lattice_core.specs.Places.{Joins, Widens}
use Rattle.lattice_core.proofs.places.EnvDomain.widen.Given as goal

abbrev pub invariant-loop-i : goal.invariant-loop-i
invariant-loop-i g l = record {
  made : Joins g.L.Lattice.below g.L.Domain.widened g.L.Lattice.least l.self-inside.items.items l.newer-inside.items.items l.i l.items.items;
  falls : Widens g.L.Lattice.below g.L.Domain.rank g.L.Domain.EXACT g.L.Lattice.joined g.L.Domain.widened g.L.Lattice.least l.self-inside.items.items l.newer-inside.items.items l.i;
}
