use Rattle.bodies_kept.proofs.Cleans.{cleaned_kept}
use Rattle.bodies_kept.proofs.dead_bridge.cleaned_program_law.Goals as goal

pub returns : goal.returns
returns c = λ admitted p q fits twice ancestor typed t. cleaned_kept p fits twice ancestor admitted q t typed
