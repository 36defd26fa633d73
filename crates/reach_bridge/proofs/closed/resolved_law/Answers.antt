use Rattle.reach_bridge.proofs.Coded.{keeps_resolved}
use Rattle.reach_bridge.proofs.closed.resolved_law.Goals as goal

pub returns : goal.returns
returns c = keeps_resolved
