use Rattle.bodies_kept.proofs.PassesShut.{propagated_keeps}
use Rattle.bodies_kept.proofs.shut_bridge.propagated_shut_law.Goals as goal

pub returns : goal.returns
returns c = propagated_keeps
