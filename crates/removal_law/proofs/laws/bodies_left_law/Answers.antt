use Rattle.removal_law.proofs.Members.{body_left}
use Rattle.removal_law.proofs.laws.bodies_left_law.Goals as goal

pub returns : goal.returns
returns c = body_left
