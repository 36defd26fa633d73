use Rattle.reach_bridge.proofs.Annotated.{keeps_mentions}
use Rattle.reach_bridge.proofs.closed.mentions_law.Goals as goal

pub returns : goal.returns
returns c = keeps_mentions
