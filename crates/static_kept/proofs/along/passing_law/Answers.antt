use Rattle.static_kept.proofs.Passing.{loosened_owes, loosened_stays}
use Rattle.static_kept.proofs.along.passing_law.Goals as goal

pub returns-clause-owes : goal.returns-clause-owes
returns-clause-owes c = loosened_owes

pub returns-clause-stays : goal.returns-clause-stays
returns-clause-stays c = loosened_stays
