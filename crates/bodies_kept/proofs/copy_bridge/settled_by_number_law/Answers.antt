use Rattle.bodies_kept.proofs.Rereads.{settles_by_number}
use Rattle.bodies_kept.proofs.copy_bridge.settled_by_number_law.Goals as goal

pub returns : goal.returns
returns c = settles_by_number
