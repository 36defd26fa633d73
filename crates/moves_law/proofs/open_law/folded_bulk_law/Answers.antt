use Rattle.moves_law.proofs.Folded.{folded_size, folded_weight}
use Rattle.moves_law.proofs.open_law.folded_bulk_law.Goals as goal

pub returns-clause-size : goal.returns-clause-size
returns-clause-size c = folded_size

pub returns-clause-weight : goal.returns-clause-weight
returns-clause-weight c = folded_weight
