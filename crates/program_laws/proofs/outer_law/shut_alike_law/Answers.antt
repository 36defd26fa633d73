use Rattle.program_laws.proofs.Steps.{shown_alike}
use Rattle.program_laws.proofs.outer_law.shut_alike_law.Goals as goal

pub returns : goal.returns
returns c = shown_alike
