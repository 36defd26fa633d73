use Rattle.reach_bridge.proofs.Kept.{removed_by_number}
use Rattle.reach_bridge.proofs.laws.removal_by_number_law.Goals as goal

pub returns : goal.returns
returns c = removed_by_number
