use Rattle.headline.proofs.Joined.{keeps}
use Rattle.headline.proofs.laws.any_outside.Goals as goal

pub returns : goal.returns
returns c = keeps
