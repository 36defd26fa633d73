use Rattle.reach_bridge.proofs.Unshut.{unshut}
use Rattle.reach_bridge.proofs.closed.unshut_law.Goals as goal

pub returns : goal.returns
returns c = unshut
