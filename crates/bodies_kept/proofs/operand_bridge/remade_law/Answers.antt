use Rattle.bodies_kept.proofs.Remaking.{remade_by_number}
use Rattle.bodies_kept.proofs.operand_bridge.remade_law.Goals as goal

pub returns : goal.returns
returns c = remade_by_number
