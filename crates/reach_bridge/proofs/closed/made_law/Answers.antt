use Rattle.reach_bridge.proofs.Making.{keeps_made}
use Rattle.reach_bridge.proofs.closed.made_law.Goals as goal

pub returns : goal.returns
returns c = keeps_made
