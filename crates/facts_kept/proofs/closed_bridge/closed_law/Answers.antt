use Rattle.facts_kept.proofs.Closing.{closed_named}
use Rattle.facts_kept.proofs.closed_bridge.closed_law.Goals as goal

pub returns : goal.returns
returns c = closed_named
