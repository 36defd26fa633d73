use Rattle.within_law.proofs.Whole.{past_items}
use Rattle.within_law.proofs.laws.within_law.Goals as goal

pub returns : goal.returns
returns c = past_items
