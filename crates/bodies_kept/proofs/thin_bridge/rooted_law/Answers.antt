use Rattle.bodies_kept.proofs.Rooted.{rooted}
use Rattle.bodies_kept.proofs.thin_bridge.rooted_law.Goals as goal

pub returns : goal.returns
returns c = λ p fits twice ancestor. rooted p fits twice ancestor
