use Rattle.bodies_kept.proofs.CopySettled.{program_settled}
use Rattle.bodies_kept.proofs.copy_bridge.fresh_law.Goals as goal

pub returns : goal.returns
returns c = program_settled
