use Rattle.type_bridge.proofs.Refused.{refused_method}
use Rattle.type_bridge.proofs.laws.refused_law.Goals as goal

pub returns : goal.returns
returns c = refused_method
