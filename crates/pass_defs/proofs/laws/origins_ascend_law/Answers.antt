use Rattle.pass_defs.proofs.Thinned.{origins_ascend}
use Rattle.pass_defs.proofs.laws.origins_ascend_law.Goals as goal

pub returns : goal.returns
returns c = origins_ascend
