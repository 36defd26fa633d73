use Rattle.read_laws.proofs.Conjuncts.{all_entries_fit}
use Rattle.read_laws.proofs.tables.entries_fit_law.Goals as goal

pub returns : goal.returns
returns c = λ bytes p h. all_entries_fit bytes p h
