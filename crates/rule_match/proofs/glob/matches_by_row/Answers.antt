use Rattle.std.proofs.Common.{arith}
use Rattle.rule_match.proofs.glob.matches_by_row.Goals as goal

pub returns : goal.returns
returns c = c.fill_row.ensures.is.at 0 (omega arith)
