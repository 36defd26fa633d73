use Rattle.program_laws.proofs.Changed.{shuts_kept}
use Rattle.program_laws.proofs.shut_law.other_bodies_law.Goals as goal

pub returns : goal.returns
returns c = shuts_kept
