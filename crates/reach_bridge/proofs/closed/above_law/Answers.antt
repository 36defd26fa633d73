use Rattle.reach_bridge.proofs.Upward.{keeps_above}
use Rattle.reach_bridge.proofs.closed.above_law.Goals as goal

pub returns : goal.returns
returns c = keeps_above
