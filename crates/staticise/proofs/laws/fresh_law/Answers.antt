use Rattle.staticise.proofs.Fresh.{fresh}
use Rattle.staticise.proofs.laws.fresh_law.Goals as goal

pub returns : goal.returns
returns c = λ p facts o admitted wf n w. fresh p facts o admitted wf n w
