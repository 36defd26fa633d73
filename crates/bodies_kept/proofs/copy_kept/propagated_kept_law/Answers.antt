use Rattle.bodies_kept.proofs.Kept.{propagated_kept}
use Rattle.bodies_kept.proofs.copy_kept.propagated_kept_law.Goals as goal

pub returns : goal.returns
returns c = propagated_kept
