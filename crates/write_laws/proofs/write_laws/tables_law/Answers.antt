use Rattle.write_laws.proofs.Tabled.{tables_are_fit}
use Rattle.write_laws.proofs.write_laws.tables_law.Goals as goal

pub returns : goal.returns
returns c = tables_are_fit
