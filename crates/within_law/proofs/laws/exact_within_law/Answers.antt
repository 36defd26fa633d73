use Rattle.within_law.proofs.Whole.{exactly}
use Rattle.within_law.proofs.laws.exact_within_law.Goals as goal

pub returns : goal.returns
returns c = exactly
