use Rattle.reach_bridge.proofs.Coded.{keeps_types}
use Rattle.reach_bridge.proofs.closed.types_law.Goals as goal

pub returns : goal.returns
returns c = keeps_types
