use Rattle.moves_law.proofs.Fewer.{fewer}
use Rattle.moves_law.proofs.copy_histories.fewer_law.Goals as goal

pub returns : goal.returns
returns c = fewer
