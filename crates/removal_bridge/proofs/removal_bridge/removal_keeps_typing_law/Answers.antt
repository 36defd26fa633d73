use Rattle.removal_bridge.proofs.Formed.{typed_program}
use Rattle.removal_bridge.proofs.removal_bridge.removal_keeps_typing_law.Goals as goal

pub returns : goal.returns
returns c = typed_program
