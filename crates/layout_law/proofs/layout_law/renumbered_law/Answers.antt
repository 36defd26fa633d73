use Rattle.layout_law.proofs.Lower.{renumbered_lays_out}
use Rattle.layout_law.proofs.layout_law.renumbered_law.Goals as goal

pub returns : goal.returns
returns c = renumbered_lays_out
