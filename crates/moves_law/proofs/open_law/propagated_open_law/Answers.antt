use Rattle.moves_law.proofs.OpenPropagated.{propagated_open}
use Rattle.moves_law.proofs.open_law.propagated_open_law.Goals as goal

pub returns : goal.returns
returns c = propagated_open
