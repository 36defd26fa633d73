use Rattle.std.proofs.Common.{◌≡◌, ◌≤◌, ◌+◌, length}
use Rattle.rule_text.specs.Pieces.{fewest_of}
use Rattle.rule_text.proofs.pieces.fewest_units.Given as goal

abbrev pub invariant-loop-rest : goal.invariant-loop-rest
invariant-loop-rest l = (l.fewest + fewest_of l.rest ≡ fewest_of l.fn.pieces) × (l.fewest + length l.rest ≤ length l.fn.pieces)

abbrev pub decreases-loop-rest : goal.decreases-loop-rest
decreases-loop-rest l = length l.rest
