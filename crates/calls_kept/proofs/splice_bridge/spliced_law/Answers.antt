use Rattle.calls_kept.proofs.Pieces.{spliced_by_number}
use Rattle.calls_kept.proofs.splice_bridge.spliced_law.Goals as goal

pub returns : goal.returns
returns c = spliced_by_number
