use Rattle.program_laws.proofs.ShutAlike.{alike_on}
use Rattle.program_laws.proofs.alike_law.alike_on_law.Goals as goal

pub returns : goal.returns
returns c = alike_on
