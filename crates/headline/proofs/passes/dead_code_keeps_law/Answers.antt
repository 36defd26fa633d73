use Rattle.headline.proofs.Keeping.{dead_code_keeps}
use Rattle.headline.proofs.passes.dead_code_keeps_law.Goals as goal

pub returns : goal.returns
returns c = dead_code_keeps
