use Rattle.bodies_kept.proofs.Bodies.{renamed_by_number}
use Rattle.bodies_kept.proofs.compact_bridge.renamed_by_number_law.Goals as goal

pub returns : goal.returns
returns c = renamed_by_number
