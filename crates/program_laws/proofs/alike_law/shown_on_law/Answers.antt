use Rattle.program_laws.proofs.ShutAlike.{shown_on}
use Rattle.program_laws.proofs.alike_law.shown_on_law.Goals as goal

pub returns : goal.returns
returns c = shown_on
