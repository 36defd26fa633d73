use Rattle.std.proofs.Common.{◌≡◌, ◌<◌, ◌+◌, ◌-◌, ℕ, false, length, cond}
use Rattle.quiet_methods.specs.Steps.{AreRanks, IsClosedAt}
use Rattle.quiet_methods.proofs.ranks.settle.Given as goal

abbrev pub invariant-loop-open : goal.invariant-loop-open
invariant-loop-open l = record {
  ranks : AreRanks l.nodes l.ranks.given.items l.ranks.next;
  closed : l.open ≡ false → (n : ℕ) → n < length l.nodes → IsClosedAt l.nodes n l.ranks.given.items;
}

abbrev pub decreases-loop-open : goal.decreases-loop-open
decreases-loop-open l = length l.nodes - l.ranks.next + cond l.open 1 0
