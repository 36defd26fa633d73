use Rattle.std.proofs.Common.{true, arith}
use Rattle.rule_match.proofs.RowLemmas.{star_row}
use Rattle.rule_match.proofs.glob.row_of_stars.Goals as goal

pub returns-clause-is : goal.returns-clause-is
returns-clause-is c = λ f is. star_row (λ _. true) f c.args.text.now c.args.row.now _ _ c.loop-at.invariant (omega arith) is
