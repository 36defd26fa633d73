use Rattle.bodies_kept.proofs.Tidying.{tidy}
use Rattle.bodies_kept.proofs.thin_bridge.tidy_law.Goals as goal

pub returns : goal.returns
returns c = λ p marks ws b fits right. tidy p marks ws b fits right
