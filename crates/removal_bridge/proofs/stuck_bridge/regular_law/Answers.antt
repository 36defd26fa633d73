use Rattle.removal_bridge.proofs.TypedFormed.{regular_program}
use Rattle.removal_bridge.proofs.stuck_bridge.regular_law.Goals as goal

pub returns : goal.returns
returns c = regular_program
