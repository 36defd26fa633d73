use Rattle.bodies_kept.proofs.Stands.{stale_by_number}
use Rattle.bodies_kept.proofs.copy_bridge.stale_by_number_law.Goals as goal

pub returns : goal.returns
returns c = stale_by_number
