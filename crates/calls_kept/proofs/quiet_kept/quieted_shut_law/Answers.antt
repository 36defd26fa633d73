use Rattle.calls_kept.proofs.QuietShuts.{quieted_shut}
use Rattle.calls_kept.proofs.quiet_kept.quieted_shut_law.Goals as goal

pub returns : goal.returns
returns g = quieted_shut
