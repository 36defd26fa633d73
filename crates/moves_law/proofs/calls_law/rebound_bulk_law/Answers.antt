use Rattle.moves_law.proofs.Rebound.{rebound_size, rebound_weight, rebound_open}
use Rattle.moves_law.proofs.calls_law.rebound_bulk_law.Goals as goal

pub returns-clause-size : goal.returns-clause-size
returns-clause-size c = rebound_size

pub returns-clause-weight : goal.returns-clause-weight
returns-clause-weight c = rebound_weight

pub returns-clause-open : goal.returns-clause-open
returns-clause-open c = rebound_open
