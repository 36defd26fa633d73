use Rattle.reach_bridge.proofs.Keeping.{keeps_owners}
use Rattle.reach_bridge.proofs.closed.owners_law.Goals as goal

pub returns : goal.returns
returns c = keeps_owners
