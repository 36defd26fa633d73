use Rattle.rebind_law.proofs.Middle.{by_middle_shown}
use Rattle.rebind_law.proofs.rebind_law.by_middle_law.Goals as goal

pub returns : goal.returns
returns c = λ p m q o regular acyclic first second. by_middle_shown p m q o regular acyclic first second
