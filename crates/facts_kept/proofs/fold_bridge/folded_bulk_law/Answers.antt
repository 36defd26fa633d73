use Rattle.facts_kept.proofs.Bulk.{folded_size, folded_weight}
use Rattle.facts_kept.proofs.fold_bridge.folded_bulk_law.Goals as goal

pub returns-clause-size : goal.returns-clause-size
returns-clause-size g = folded_size

pub returns-clause-weight : goal.returns-clause-weight
returns-clause-weight g = folded_weight
