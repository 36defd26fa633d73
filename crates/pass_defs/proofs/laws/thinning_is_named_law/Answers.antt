use Rattle.pass_defs.proofs.Thinned.{named_thinned}
use Rattle.pass_defs.proofs.laws.thinning_is_named_law.Goals as goal

pub returns : goal.returns
returns c = named_thinned
