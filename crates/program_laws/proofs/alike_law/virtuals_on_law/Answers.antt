use Rattle.program_laws.proofs.ShutAlike.{virtuals_on}
use Rattle.program_laws.proofs.alike_law.virtuals_on_law.Goals as goal

pub returns : goal.returns
returns c = virtuals_on
