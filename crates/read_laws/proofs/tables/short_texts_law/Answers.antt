use Rattle.read_laws.proofs.Conjuncts.{all_texts_short}
use Rattle.read_laws.proofs.tables.short_texts_law.Goals as goal

pub returns : goal.returns
returns c = λ bytes p h. all_texts_short bytes p h
