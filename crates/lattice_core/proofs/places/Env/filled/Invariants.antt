use Rattle.std.proofs.Common.{◌≡◌, replicate}
use Rattle.lattice_core.proofs.places.Env.filled.Given as goal

abbrev pub invariant-loop : goal.invariant-loop
invariant-loop g l = l.items.items ≡ replicate l.counter l.value
