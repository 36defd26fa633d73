use Rattle.reach_bridge.proofs.Kept.{kept_named}
use Rattle.reach_bridge.proofs.laws.left_by_number_law.Goals as goal

pub returns : goal.returns
returns c = kept_named
