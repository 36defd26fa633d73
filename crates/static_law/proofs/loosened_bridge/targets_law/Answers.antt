use Rattle.class_defs.proofs.WellFormed.{sound}
use Rattle.static_law.proofs.Targets.{targets_planned}
use Rattle.static_law.proofs.loosened_bridge.targets_law.Goals as goal

pub returns : goal.returns
returns c = λ given p w twice own lets. targets_planned given p (sound p w) twice own lets
