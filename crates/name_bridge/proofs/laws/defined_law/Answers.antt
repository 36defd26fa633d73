use Rattle.name_bridge.proofs.Tables.{sound}
use Rattle.name_bridge.proofs.Defined.{method_defined_by_number}
use Rattle.name_bridge.proofs.laws.defined_law.Goals as goal

pub returns : goal.returns
returns c = λ p m h once. method_defined_by_number p (sound p h) once m
