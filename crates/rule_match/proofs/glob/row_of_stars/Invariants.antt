use Rattle.std.proofs.Common.{true}
use Rattle.rule_match.proofs.RowLemmas.{IsStarred}
use Rattle.rule_match.proofs.glob.row_of_stars.Given as goal

abbrev pub invariant-loop-at : goal.invariant-loop-at
invariant-loop-at l = IsStarred (λ _. true) l.text l.fn.row l.row l.at

abbrev pub decreases-loop-at : goal.decreases-loop-at
decreases-loop-at l = l.at
