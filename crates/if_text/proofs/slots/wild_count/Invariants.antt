use Rattle.std.proofs.Common.{◌≡◌, ◌≤◌, ◌+◌, length}
use Rattle.if_text.specs.Wildcards.{wild_count}
use Rattle.if_text.proofs.slots.wild_count.Given as goal

abbrev pub invariant-loop-rest : goal.invariant-loop-rest
invariant-loop-rest l = (l.count + wild_count l.rest ≡ wild_count l.fn.pieces) × (l.count + length l.rest ≤ length l.fn.pieces)

abbrev pub decreases-loop-rest : goal.decreases-loop-rest
decreases-loop-rest l = length l.rest
