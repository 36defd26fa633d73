use Rattle.written_file.proofs.Stated.{tables_fit}
use Rattle.written_file.proofs.written_tables.tables_law.Goals as goal

pub returns : goal.returns
returns c = tables_fit
