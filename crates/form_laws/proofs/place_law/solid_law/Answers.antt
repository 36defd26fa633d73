use Rattle.form_laws.proofs.WellFormed.{well_formed_solid}
use Rattle.form_laws.proofs.place_law.solid_law.Goals as goal

pub returns : goal.returns
returns c = well_formed_solid
