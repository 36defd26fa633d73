use Rattle.headline.proofs.Keeping.{reach_keeps}
use Rattle.headline.proofs.passes.reach_keeps_law.Goals as goal

pub returns : goal.returns
returns c = reach_keeps
