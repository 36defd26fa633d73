use Rattle.headline.proofs.Keeping.{copy_prop_keeps}
use Rattle.headline.proofs.passes.copy_prop_keeps_law.Goals as goal

pub returns : goal.returns
returns c = copy_prop_keeps
