use Rattle.reach_bridge.proofs.Within.{keeps_shuts}
use Rattle.reach_bridge.proofs.closed.reach_keeps_shuts_law.Goals as goal

pub returns : goal.returns
returns c = keeps_shuts
