use Rattle.staticise.proofs.Called.{untouched}
use Rattle.staticise.proofs.laws.untouched_law.Goals as goal

pub returns : goal.returns
returns c = λ p facts o admitted. untouched p facts o admitted
