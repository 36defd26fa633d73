use Rattle.read_laws.proofs.WellFormed.{well_formed_read}
use Rattle.read_laws.proofs.programs.well_formed_law.Goals as goal

pub returns : goal.returns
returns c = λ bytes p are h. well_formed_read bytes p are h
