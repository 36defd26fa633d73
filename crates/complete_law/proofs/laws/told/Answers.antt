use Rattle.complete_law.proofs.Standing.{told}
use Rattle.complete_law.proofs.laws.told.Goals as goal

pub returns : goal.returns
returns c = told
