use Rattle.reach_bridge.proofs.Calls.{keeps_bound}
use Rattle.reach_bridge.proofs.closed.bound_law.Goals as goal

pub returns : goal.returns
returns c = keeps_bound
