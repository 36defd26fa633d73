use Rattle.staticise.proofs.Called.{calls_known}
use Rattle.staticise.proofs.laws.called_law.Goals as goal

pub returns : goal.returns
returns c = λ p facts o admitted. calls_known p facts o admitted
