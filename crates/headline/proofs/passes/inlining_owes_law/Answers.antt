use Rattle.headline.proofs.Inlining.{inlining_owes, inlining_stays}
use Rattle.headline.proofs.passes.inlining_owes_law.Goals as goal

pub returns-clause-owes : goal.returns-clause-owes
returns-clause-owes c = inlining_owes

pub returns-clause-stays : goal.returns-clause-stays
returns-clause-stays c = inlining_stays
