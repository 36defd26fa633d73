use Rattle.layout_law.proofs.Thinned.{thinned_lays_out}
use Rattle.layout_law.proofs.layout_law.thinned_law.Goals as goal

pub returns : goal.returns
returns c = thinned_lays_out
