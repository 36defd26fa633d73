use Rattle.static_law.proofs.Upward.{fits_upward}
use Rattle.static_law.proofs.static_types.upward_law.Goals as goal

pub returns : goal.returns
returns c = fits_upward
