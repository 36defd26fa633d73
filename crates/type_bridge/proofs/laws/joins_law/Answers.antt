use Rattle.type_bridge.proofs.Told.{told}
use Rattle.type_bridge.proofs.Joined.{joined_named}
use Rattle.type_bridge.proofs.laws.joins_law.Goals as goal

pub returns : goal.returns
returns c = λ p h v w o i a b e f. joined_named p v.tables (told p h v w o i) a b e f
