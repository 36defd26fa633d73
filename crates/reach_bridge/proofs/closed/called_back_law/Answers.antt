use Rattle.reach_bridge.proofs.Answered.{keeps_called_back}
use Rattle.reach_bridge.proofs.closed.called_back_law.Goals as goal

pub returns : goal.returns
returns c = keeps_called_back
