use Rattle.moves_law.proofs.Made.{made_size, made_weight}
use Rattle.moves_law.proofs.receiver_counts.made_bulk_law.Goals as goal

pub returns-clause-size : goal.returns-clause-size
returns-clause-size c = made_size

pub returns-clause-weight : goal.returns-clause-weight
returns-clause-weight c = made_weight
