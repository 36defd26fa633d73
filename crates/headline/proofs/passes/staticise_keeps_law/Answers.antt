use Rattle.headline.proofs.Keeping.{staticise_keeps}
use Rattle.headline.proofs.passes.staticise_keeps_law.Goals as goal

pub returns : goal.returns
returns c = staticise_keeps
