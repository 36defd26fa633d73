use Rattle.run_laws.proofs.Runs.{never_stuck_regular}
use Rattle.run_laws.proofs.stuck_law.never_stuck.Goals as goal

pub returns : goal.returns
returns c = never_stuck_regular
