use Rattle.type_bridge.proofs.Told.{told}
use Rattle.type_bridge.proofs.Texts.{kind_is}
use Rattle.type_bridge.proofs.laws.types_law.Goals as goal

pub returns : goal.returns
returns c = λ p h v w o i k. kind_is p v.tables (told p h v w o i) k
