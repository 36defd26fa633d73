use Rattle.headline.proofs.Keeping.{compact_keeps}
use Rattle.headline.proofs.passes.compact_keeps_law.Goals as goal

pub returns : goal.returns
returns c = compact_keeps
