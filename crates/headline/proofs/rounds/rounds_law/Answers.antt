use Rattle.headline.proofs.Repeated.{all_rounds_owe}
use Rattle.headline.proofs.Staying.{rounds_stay}
use Rattle.headline.proofs.rounds.rounds_law.Goals as goal

pub returns-clause-owes : goal.returns-clause-owes
returns-clause-owes c = all_rounds_owe

pub returns-clause-stays : goal.returns-clause-stays
returns-clause-stays c = rounds_stay
