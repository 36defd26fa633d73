use Rattle.dalvik_defs.proofs.SameBodies.{same_by_bodies}
use Rattle.dalvik_defs.proofs.laws.same_bodies_law.Goals as goal

pub returns : goal.returns
returns c = same_by_bodies
