use Rattle.reach_bridge.proofs.Within.{shows_the_same}
use Rattle.reach_bridge.proofs.closed.reach_law.Goals as goal

pub returns : goal.returns
returns c = shows_the_same
