use Rattle.run_laws.proofs.SizedRuns.{every_run_is_sized}
use Rattle.run_laws.proofs.invariant_law.sizes_law.Goals as goal

pub returns : goal.returns
returns c = every_run_is_sized
