use Rattle.type_bridge.proofs.Told.{told}
use Rattle.type_bridge.proofs.Numbering.{below_numbered}
use Rattle.type_bridge.proofs.laws.order_by_name_law.Goals as goal

pub returns : goal.returns
returns c = λ p h v w o i a b e f g. below_numbered p v.tables (told p h v w o i) a b e f g
