use Rattle.moves_law.proofs.OpenCompacted.{compacted_open}
use Rattle.moves_law.proofs.open_law.compacted_open_law.Goals as goal

pub returns : goal.returns
returns c = compacted_open
