use Rattle.verify.proofs.Leaving.{monotone}
use Rattle.verify.proofs.laws.monotone_law.Goals as goal

pub returns : goal.returns
returns c = monotone
