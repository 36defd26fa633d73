use Rattle.moves_law.proofs.CallsCompacted.{compacted_calls}
use Rattle.moves_law.proofs.calls_law.compacted_calls_law.Goals as goal

pub returns : goal.returns
returns c = compacted_calls
