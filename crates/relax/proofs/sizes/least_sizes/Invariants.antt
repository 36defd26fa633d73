use Rattle.std.proofs.Common.{◌≡◌, ◌+◌, ℕ, List, length, true, cond}
use Rattle.relax.specs.Sizes.{HasRoom, Below}
use Rattle.relax.proofs.Least.{slack}
use Rattle.relax.proofs.sizes.least_sizes.Given as goal

abbrev pub invariant-loop-settled : goal.invariant-loop-settled
invariant-loop-settled l = record {
  long : length l.sizes.items ≡ length l.steps;
  least : (others : List ℕ) → HasRoom l.steps others → Below l.sizes.items others;
  room : l.settled ≡ true → HasRoom l.steps l.sizes.items;
}

abbrev pub decreases-loop-settled : goal.decreases-loop-settled
decreases-loop-settled l = slack l.steps l.sizes.items + cond l.settled 0 1
