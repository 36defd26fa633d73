use Rattle.run_laws.proofs.FineRuns.{every_run_is_fine}
use Rattle.run_laws.proofs.invariant_law.references_law.Goals as goal

pub returns : goal.returns
returns c = every_run_is_fine
