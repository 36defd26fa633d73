use Rattle.removal_law.proofs.OuterTables.{tables_agree}
use Rattle.removal_law.proofs.laws.tables_by_number_law.Goals as goal

pub returns : goal.returns
returns c = tables_agree
