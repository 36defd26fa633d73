use Rattle.bodies_kept.proofs.CopyPrograms.{propagated_shown}
use Rattle.bodies_kept.proofs.copy_bridge.propagated_program_law.Goals as goal

pub returns : goal.returns
returns c = propagated_shown
