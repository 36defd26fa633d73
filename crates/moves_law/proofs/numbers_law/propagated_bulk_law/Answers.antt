use Rattle.moves_law.proofs.NumbersPropagated.{propagated_size, propagated_weight}
use Rattle.moves_law.proofs.numbers_law.propagated_bulk_law.Goals as goal

pub returns-clause-size : goal.returns-clause-size
returns-clause-size c = λ admitted p q i. propagated_size admitted p q i

pub returns-clause-weight : goal.returns-clause-weight
returns-clause-weight c = λ admitted p q i. propagated_weight admitted p q i
