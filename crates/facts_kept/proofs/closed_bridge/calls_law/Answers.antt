use Rattle.facts_kept.proofs.Entering.{calls_named}
use Rattle.facts_kept.proofs.closed_bridge.calls_law.Goals as goal

pub returns : goal.returns
returns c p o live targets t g exact lives calls = calls_named p o live g targets exact t lives calls
