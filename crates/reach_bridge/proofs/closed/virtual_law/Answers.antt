use Rattle.reach_bridge.proofs.Answered.{keeps_virtual}
use Rattle.reach_bridge.proofs.closed.virtual_law.Goals as goal

pub returns : goal.returns
returns c = keeps_virtual
