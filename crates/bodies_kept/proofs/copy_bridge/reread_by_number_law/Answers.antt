use Rattle.bodies_kept.proofs.Rereads.{reads_by_number}
use Rattle.bodies_kept.proofs.copy_bridge.reread_by_number_law.Goals as goal

pub returns : goal.returns
returns c = reads_by_number
