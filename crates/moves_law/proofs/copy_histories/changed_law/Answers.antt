use Rattle.moves_law.proofs.Falling.{falls}
use Rattle.moves_law.proofs.copy_histories.changed_law.Goals as goal

pub returns : goal.returns
returns c = falls
