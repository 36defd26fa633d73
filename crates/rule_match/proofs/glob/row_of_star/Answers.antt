use Rattle.std.proofs.Common.{arith}
use Rattle.rule_text.specs.Glob.{passes_of}
use Rattle.rule_match.proofs.RowLemmas.{star_row}
use Rattle.rule_match.proofs.glob.row_of_star.Goals as goal

pub returns-clause-is : goal.returns-clause-is
returns-clause-is c = λ f is. star_row (passes_of c.args.named) f c.args.text.now c.args.row.now _ _ c.loop-at.invariant (omega arith) is
