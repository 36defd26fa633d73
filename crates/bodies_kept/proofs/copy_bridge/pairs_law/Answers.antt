use Rattle.bodies_kept.proofs.Rereads.{pairs_by_number}
use Rattle.bodies_kept.proofs.copy_bridge.pairs_law.Goals as goal

pub returns : goal.returns
returns c = pairs_by_number
