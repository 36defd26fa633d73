use Rattle.program_laws.proofs.WellFormed.{well_placed}
use Rattle.program_laws.proofs.silence_law.results_in_place_law.Goals as goal

pub returns : goal.returns
returns c = well_placed
