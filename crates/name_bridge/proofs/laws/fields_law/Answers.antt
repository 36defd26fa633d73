use Rattle.name_bridge.proofs.Tables.{sound}
use Rattle.name_bridge.proofs.Fields.{field_resolves_by_number}
use Rattle.name_bridge.proofs.laws.fields_law.Goals as goal

pub returns : goal.returns
returns c = λ p f h. field_resolves_by_number p (sound p h) f
