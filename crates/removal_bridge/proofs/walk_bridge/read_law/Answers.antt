use Rattle.removal_bridge.proofs.Walked.{read_by_number}
use Rattle.removal_bridge.proofs.walk_bridge.read_law.Goals as goal

pub returns : goal.returns
returns c = read_by_number
