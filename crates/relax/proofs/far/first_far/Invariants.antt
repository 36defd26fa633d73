use Rattle.std.proofs.Common.{◌≡◌, drop}
use Rattle.relax.specs.Far.{first_far}
use Rattle.relax.proofs.far.first_far.Given as goal

abbrev pub invariant-loop-at : goal.invariant-loop-at
invariant-loop-at l = first_far l.sizes l.at (drop l.at l.insns) ≡ first_far l.sizes 0 l.insns
