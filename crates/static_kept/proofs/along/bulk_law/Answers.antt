use Rattle.static_kept.proofs.Bulk.{bulk_stays}
use Rattle.static_kept.proofs.along.bulk_law.Goals as goal

pub returns : goal.returns
returns c = bulk_stays
