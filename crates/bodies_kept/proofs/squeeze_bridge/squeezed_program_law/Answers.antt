use Rattle.bodies_kept.proofs.Squeezes.{squeezed_kept}
use Rattle.bodies_kept.proofs.squeeze_bridge.squeezed_program_law.Goals as goal

pub returns : goal.returns
returns c = λ admitted p q fits twice ancestor typed t. squeezed_kept admitted p q fits typed t twice ancestor
