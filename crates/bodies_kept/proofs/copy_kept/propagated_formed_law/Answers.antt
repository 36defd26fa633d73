use Rattle.bodies_kept.proofs.Formed.{propagated_formed}
use Rattle.bodies_kept.proofs.copy_kept.propagated_formed_law.Goals as goal

pub returns : goal.returns
returns c = propagated_formed
