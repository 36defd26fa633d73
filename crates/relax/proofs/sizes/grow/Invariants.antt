use Rattle.std.proofs.Common.{◌≡◌, ◌++◌, drop}
use Rattle.relax.specs.Sizes.{grown}
use Rattle.relax.proofs.sizes.grow.Given as goal

abbrev pub invariant-loop-i : goal.invariant-loop-i
invariant-loop-i l = l.next.items ++ grown l.sizes l.i (drop l.i l.steps) (drop l.i l.sizes) ≡ grown l.sizes 0 l.steps l.sizes
