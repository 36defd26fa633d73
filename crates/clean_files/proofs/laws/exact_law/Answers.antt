use Rattle.clean_files.proofs.Whole.{exactly}
use Rattle.clean_files.proofs.laws.exact_law.Goals as goal

pub returns : goal.returns
returns c = exactly
