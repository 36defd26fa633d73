use Rattle.bodies_kept.proofs.Same.{same_form}
use Rattle.bodies_kept.proofs.operand_bridge.same_form_law.Goals as goal

pub returns : goal.returns
returns c = same_form
