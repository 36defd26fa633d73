use Rattle.moves_law.proofs.MovesCompacted.{compacted_same}
use Rattle.moves_law.proofs.moves_law.compacted_moves_law.Goals as goal

pub returns : goal.returns
returns c = compacted_same
