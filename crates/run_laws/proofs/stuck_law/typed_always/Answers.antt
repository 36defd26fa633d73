use Rattle.run_laws.proofs.Runs.{typed_regular}
use Rattle.run_laws.proofs.stuck_law.typed_always.Goals as goal

pub returns : goal.returns
returns c = typed_regular
