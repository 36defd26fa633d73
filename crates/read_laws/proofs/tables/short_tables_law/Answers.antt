use Rattle.read_laws.proofs.Conjuncts.{all_tables_short}
use Rattle.read_laws.proofs.tables.short_tables_law.Goals as goal

pub returns : goal.returns
returns c = λ bytes p b h. all_tables_short bytes p b h
