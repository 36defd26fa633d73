use Rattle.staticise.proofs.Made.{all_made}
use Rattle.staticise.proofs.laws.made_law.Goals as goal

pub returns : goal.returns
returns c = λ p facts o admitted. all_made p facts o admitted
