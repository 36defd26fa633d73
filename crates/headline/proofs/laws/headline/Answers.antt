use Rattle.headline.proofs.Joined.{joined}
use Rattle.headline.proofs.laws.headline.Goals as goal

pub returns : goal.returns
returns c = λ words voices held output summary by. joined words voices held output summary by
