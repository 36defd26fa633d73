use Rattle.rule_text.specs.Glob.{passes_of}
use Rattle.rule_match.proofs.RowLemmas.{IsStarred}
use Rattle.rule_match.proofs.glob.row_of_star.Given as goal

abbrev pub invariant-loop-at : goal.invariant-loop-at
invariant-loop-at l = IsStarred (passes_of l.named) l.text l.fn.row l.row l.at

abbrev pub decreases-loop-at : goal.decreases-loop-at
decreases-loop-at l = l.at
