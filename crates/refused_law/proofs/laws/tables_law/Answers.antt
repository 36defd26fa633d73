use Rattle.refused_law.proofs.Whole.{fails_pools, fails_head}
use Rattle.refused_law.proofs.laws.tables_law.Goals as goal

pub returns : goal.returns
returns c = record { pools = λ bytes left e whole h. (fails_pools bytes left whole).fault e h; head = λ bytes e h. (fails_head bytes).fault e h }
