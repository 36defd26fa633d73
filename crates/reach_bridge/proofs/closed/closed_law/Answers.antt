use Rattle.reach_bridge.proofs.Within.{closed}
use Rattle.reach_bridge.proofs.closed.closed_law.Goals as goal

pub returns : goal.returns
returns c = closed
