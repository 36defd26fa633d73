use Rattle.bodies_kept.proofs.CompactSettled.{program_settled}
use Rattle.bodies_kept.proofs.compact_bridge.settled_program_law.Goals as goal

pub returns : goal.returns
returns c = λ admitted p i. program_settled admitted p i
