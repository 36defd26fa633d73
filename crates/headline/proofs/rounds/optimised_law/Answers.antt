use Rattle.headline.proofs.Repeated.{optimised_owes}
use Rattle.headline.proofs.rounds.optimised_law.Goals as goal

pub returns : goal.returns
returns c = optimised_owes
