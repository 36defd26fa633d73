use Rattle.moves_law.proofs.NumbersCompacted.{compacted_size, compacted_weight}
use Rattle.moves_law.proofs.numbers_law.compacted_bulk_law.Goals as goal

pub returns-clause-size : goal.returns-clause-size
returns-clause-size c = λ admitted p q i. compacted_size admitted p q i

pub returns-clause-weight : goal.returns-clause-weight
returns-clause-weight c = λ admitted p q i. compacted_weight admitted p q i
