use Rattle.type_bridge.proofs.Refused.{refused_program}
use Rattle.type_bridge.proofs.laws.ill_typed_law.Goals as goal

pub returns : goal.returns
returns c = refused_program
