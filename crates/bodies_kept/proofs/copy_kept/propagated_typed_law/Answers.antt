use Rattle.bodies_kept.proofs.CopyTyping.{propagated_typed}
use Rattle.bodies_kept.proofs.copy_kept.propagated_typed_law.Goals as goal

pub returns : goal.returns
returns c = propagated_typed
