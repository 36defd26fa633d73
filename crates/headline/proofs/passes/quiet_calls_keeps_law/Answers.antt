use Rattle.headline.proofs.Keeping.{quiet_calls_keeps}
use Rattle.headline.proofs.passes.quiet_calls_keeps_law.Goals as goal

pub returns : goal.returns
returns c = quiet_calls_keeps
