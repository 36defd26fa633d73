use Rattle.headline.proofs.Keeping.{squeeze_keeps}
use Rattle.headline.proofs.passes.squeeze_keeps_law.Goals as goal

pub returns : goal.returns
returns c = squeeze_keeps
