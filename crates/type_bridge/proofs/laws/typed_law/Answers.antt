use Rattle.type_bridge.proofs.Programs.{typed_program}
use Rattle.type_bridge.proofs.laws.typed_law.Goals as goal

pub returns : goal.returns
returns c = typed_program
