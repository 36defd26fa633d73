use Rattle.bodies_kept.proofs.PassesShut.{compacted_keeps}
use Rattle.bodies_kept.proofs.shut_bridge.compacted_shut_law.Goals as goal

pub returns : goal.returns
returns c = compacted_keeps
