use Rattle.verify.proofs.Follows.{follows}
use Rattle.verify.proofs.laws.chains_law.Goals as goal

pub returns : goal.returns
returns c = follows
