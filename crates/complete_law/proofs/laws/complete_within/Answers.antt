use Rattle.complete_law.proofs.Inside.{ends}
use Rattle.complete_law.proofs.laws.complete_within.Goals as goal

pub returns : goal.returns
returns c = ends
