use Rattle.written_kept.proofs.Rising.{written_formed}
use Rattle.written_kept.proofs.written_formed.written_formed_law.Goals as goal

pub returns : goal.returns
returns c = written_formed
