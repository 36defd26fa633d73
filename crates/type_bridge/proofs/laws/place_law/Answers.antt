use Rattle.type_bridge.proofs.LeastFlows.{ill_method}
use Rattle.type_bridge.proofs.laws.place_law.Goals as goal

pub returns : goal.returns
returns c = ill_method
