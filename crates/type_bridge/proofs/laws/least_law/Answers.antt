use Rattle.type_bridge.proofs.Least.{least_method}
use Rattle.type_bridge.proofs.laws.least_law.Goals as goal

pub returns : goal.returns
returns c = least_method
