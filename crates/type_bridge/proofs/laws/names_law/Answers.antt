use Rattle.type_bridge.proofs.Told.{told}
use Rattle.type_bridge.proofs.Numbers.{one_kind}
use Rattle.type_bridge.proofs.laws.names_law.Goals as goal

pub returns : goal.returns
returns c = λ p h v w o i a b e f s. one_kind p v.tables (told p h v w o i) a b e f s
