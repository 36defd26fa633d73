use Rattle.headline.proofs.Keeping.{devirt_keeps}
use Rattle.headline.proofs.passes.devirt_keeps_law.Goals as goal

pub returns : goal.returns
returns c = devirt_keeps
