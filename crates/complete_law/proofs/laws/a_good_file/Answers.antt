use Rattle.complete_law.proofs.Least.{least_is_good}
use Rattle.complete_law.proofs.laws.a_good_file.Goals as goal

pub returns : goal.returns
returns c = least_is_good
