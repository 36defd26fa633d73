use Rattle.std.proofs.Common.{arith}
use Rattle.rule_match.proofs.RowLemmas.{unit_row, all_written}
use Rattle.rule_match.proofs.glob.row_of_unit.Goals as goal

pub returns-clause-is : goal.returns-clause-is
returns-clause-is c = λ f is. unit_row f c.args.text.now c.args.named c.args.unit c.args.row.now _ is (all_written _ _ _ _ _ c.loop-at.invariant (omega arith) c.requires)
