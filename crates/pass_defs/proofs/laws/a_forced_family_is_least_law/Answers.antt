use Rattle.pass_defs.proofs.Least.{forced_is_least}
use Rattle.pass_defs.proofs.laws.a_forced_family_is_least_law.Goals as goal

pub returns : goal.returns
returns c = forced_is_least
