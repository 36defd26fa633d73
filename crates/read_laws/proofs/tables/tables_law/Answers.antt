use Rattle.read_laws.proofs.Conjuncts.{all_tables_fit}
use Rattle.read_laws.proofs.tables.tables_law.Goals as goal

pub returns : goal.returns
returns c = λ bytes p b h. all_tables_fit bytes p b h
