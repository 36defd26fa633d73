use Rattle.name_bridge.proofs.Tables.{sound}
use Rattle.name_bridge.proofs.Nearest.{nearest_by_number}
use Rattle.name_bridge.proofs.laws.nearest_law.Goals as goal

pub returns : goal.returns
returns c = λ p t u h once. nearest_by_number p (sound p h) once t u
