use Rattle.complete_law.proofs.Completing.{completes}
use Rattle.complete_law.proofs.laws.complete.Goals as goal

pub returns : goal.returns
returns c = completes
