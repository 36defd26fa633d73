use Rattle.facts_kept.proofs.Closing.{entries_named}
use Rattle.facts_kept.proofs.closed_bridge.entries_law.Goals as goal

pub returns : goal.returns
returns c = entries_named
