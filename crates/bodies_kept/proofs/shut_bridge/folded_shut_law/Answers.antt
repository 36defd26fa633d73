use Rattle.bodies_kept.proofs.Folded.{folded_keeps}
use Rattle.bodies_kept.proofs.shut_bridge.folded_shut_law.Goals as goal

pub returns : goal.returns
returns c = folded_keeps
