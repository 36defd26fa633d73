use Rattle.rule_match.specs.Rows.{one_at}
use Rattle.rule_match.proofs.RowLemmas.{IsWritten}
use Rattle.rule_match.proofs.glob.row_of_one.Given as goal

abbrev pub invariant-loop-at : goal.invariant-loop-at
invariant-loop-at l = IsWritten (one_at l.text l.named l.fn.row) l.fn.row l.row l.at
