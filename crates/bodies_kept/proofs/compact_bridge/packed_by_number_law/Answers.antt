use Rattle.bodies_kept.proofs.Bodies.{packed_by_number}
use Rattle.bodies_kept.proofs.compact_bridge.packed_by_number_law.Goals as goal

pub returns : goal.returns
returns c = packed_by_number
