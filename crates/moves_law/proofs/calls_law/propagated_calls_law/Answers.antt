use Rattle.moves_law.proofs.CallsPropagated.{propagated_calls}
use Rattle.moves_law.proofs.calls_law.propagated_calls_law.Goals as goal

pub returns : goal.returns
returns c = propagated_calls
