use Rattle.removal_bridge.proofs.Walked.{read_after_by_number}
use Rattle.removal_bridge.proofs.walk_bridge.read_after_law.Goals as goal

pub returns : goal.returns
returns c = read_after_by_number
