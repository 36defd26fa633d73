use Rattle.reach_bridge.proofs.Within.{keeps_typing}
use Rattle.reach_bridge.proofs.closed.reach_keeps_typing_law.Goals as goal

pub returns : goal.returns
returns c = keeps_typing
