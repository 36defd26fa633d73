use Rattle.clean_files.proofs.Whole.{answered}
use Rattle.clean_files.proofs.laws.answered_law.Goals as goal

pub returns : goal.returns
returns c = answered
