use Rattle.pass_defs.proofs.Anything.{everything_closed}
use Rattle.pass_defs.proofs.laws.everything_is_closed_law.Goals as goal

pub returns : goal.returns
returns c = everything_closed
