use Rattle.written_kept.proofs.Written.{written_typed}
use Rattle.written_kept.proofs.written_shown.written_typed_law.Goals as goal

pub returns : goal.returns
returns c = written_typed
