use Rattle.thin_laws.proofs.Fits.{thinned_fits}
use Rattle.thin_laws.proofs.thin_rules.thinned_fits_law.Goals as goal

pub returns : goal.returns
returns c = λ p marks fs b fits tidy. thinned_fits p marks fs b fits tidy
