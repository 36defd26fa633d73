use Rattle.reach_bridge.proofs.Answered.{keeps_entered}
use Rattle.reach_bridge.proofs.closed.entered_law.Goals as goal

pub returns : goal.returns
returns c = keeps_entered
