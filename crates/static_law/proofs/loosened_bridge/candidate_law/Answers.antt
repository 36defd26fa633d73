use Rattle.class_defs.proofs.WellFormed.{sound}
use Rattle.static_law.proofs.Candidates.{candidate_static}
use Rattle.static_law.proofs.loosened_bridge.candidate_law.Goals as goal

pub returns : goal.returns
returns c = λ p o n x w twice class_types apart calls. candidate_static p (sound p w) twice class_types o n x apart calls
