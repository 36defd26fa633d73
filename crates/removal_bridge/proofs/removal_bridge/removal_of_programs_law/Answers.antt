use Rattle.removal_bridge.proofs.Formed.{removed_program}
use Rattle.removal_bridge.proofs.removal_bridge.removal_of_programs_law.Goals as goal

pub returns : goal.returns
returns c = removed_program
