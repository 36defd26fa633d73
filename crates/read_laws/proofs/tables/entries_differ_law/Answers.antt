use Rattle.read_laws.proofs.Conjuncts.{all_entries_differ}
use Rattle.read_laws.proofs.tables.entries_differ_law.Goals as goal

pub returns : goal.returns
returns c = λ bytes p h. all_entries_differ bytes p h
