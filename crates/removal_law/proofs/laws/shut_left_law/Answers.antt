use Rattle.removal_law.proofs.ShutLeft.{shuts_left}
use Rattle.removal_law.proofs.laws.shut_left_law.Goals as goal

pub returns : goal.returns
returns c = shuts_left
