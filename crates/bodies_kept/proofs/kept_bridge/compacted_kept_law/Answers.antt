use Rattle.bodies_kept.proofs.Compacted.{compacted_kept}
use Rattle.bodies_kept.proofs.kept_bridge.compacted_kept_law.Goals as goal

pub returns : goal.returns
returns c = λ admitted p q fits twice typed narrow i. compacted_kept admitted p q fits twice typed narrow i
