use Rattle.headline.proofs.Keeping.{const_prop_keeps}
use Rattle.headline.proofs.passes.const_prop_keeps_law.Goals as goal

pub returns : goal.returns
returns c = const_prop_keeps
