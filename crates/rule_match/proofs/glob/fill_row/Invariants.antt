use Rattle.std.proofs.Common.{◌≡◌, ◌+◌, ◌≤◌, length, drop}
use Rattle.rule_text.specs.Glob.{matches_of, IsRow}
use Rattle.rule_match.proofs.glob.fill_row.Given as goal

abbrev pub invariant-loop-at : goal.invariant-loop-at
invariant-loop-at l = (l.at ≤ length l.pieces) × (length l.row ≡ length l.text + 1) × IsRow (matches_of l.named (drop l.at l.pieces)) l.text l.row

abbrev pub decreases-loop-at : goal.decreases-loop-at
decreases-loop-at l = l.at
