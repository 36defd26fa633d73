use Rattle.bodies_kept.proofs.Widths.{wides_by_number}
use Rattle.bodies_kept.proofs.operand_bridge.wides_law.Goals as goal

pub returns : goal.returns
returns c = wides_by_number
