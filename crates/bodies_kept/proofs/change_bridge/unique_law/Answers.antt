use Rattle.bodies_kept.proofs.Unique.{unique_named}
use Rattle.bodies_kept.proofs.change_bridge.unique_law.Goals as goal

pub returns : goal.returns
returns c = unique_named
