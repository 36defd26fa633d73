use Rattle.removal_bridge.proofs.Walked.{reached_by_number}
use Rattle.removal_bridge.proofs.walk_bridge.reached_law.Goals as goal

pub returns : goal.returns
returns c = reached_by_number
