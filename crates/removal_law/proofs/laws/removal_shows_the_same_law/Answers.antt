use Rattle.removal_law.proofs.Removal.{removal}
use Rattle.removal_law.proofs.laws.removal_shows_the_same_law.Goals as goal

pub returns : goal.returns
returns c = removal
