use Rattle.reach_bridge.proofs.Unshut.{unshut}
use Rattle.reach_bridge.proofs.Within.{shows_the_same}
use Rattle.reach_bridge.proofs.closed.open_reach_law.Goals as goal

pub returns : goal.returns
returns c = λ p o s marked typed none. shows_the_same p o s marked typed (unshut p o none)
