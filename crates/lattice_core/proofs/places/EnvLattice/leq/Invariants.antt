use Rattle.std.proofs.Common.{ℕ, ◌<◌}
use Rattle.std.specs.Prelude.{slice_index_or}
use Rattle.lattice_core.proofs.places.EnvLattice.leq.Given as goal

abbrev pub invariant-loop-i : goal.invariant-loop-i
invariant-loop-i g l = (k : ℕ) → k < l.i → g.L.Lattice.below (slice_index_or l.self-inside.items.items k g.L.Lattice.least) (slice_index_or l.other-inside.items.items k g.L.Lattice.least)
