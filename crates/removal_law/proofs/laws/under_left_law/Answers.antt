use Rattle.removal_law.proofs.Under.{under_same}
use Rattle.removal_law.proofs.laws.under_left_law.Goals as goal

pub returns : goal.returns
returns c = under_same
