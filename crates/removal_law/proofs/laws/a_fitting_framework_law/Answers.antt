use Rattle.removal_law.proofs.Fits.{fit_names_none}
use Rattle.removal_law.proofs.laws.a_fitting_framework_law.Goals as goal

pub returns : goal.returns
returns c = fit_names_none
