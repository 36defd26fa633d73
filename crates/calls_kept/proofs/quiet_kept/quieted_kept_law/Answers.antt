use Rattle.calls_kept.proofs.QuietKept.{quieted_kept}
use Rattle.calls_kept.proofs.quiet_kept.quieted_kept_law.Goals as goal

pub returns : goal.returns
returns g = quieted_kept
