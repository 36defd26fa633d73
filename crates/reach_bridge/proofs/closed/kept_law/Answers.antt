use Rattle.reach_bridge.proofs.Keeping.{keeps_kept}
use Rattle.reach_bridge.proofs.closed.kept_law.Goals as goal

pub returns : goal.returns
returns c = keeps_kept
