use Rattle.removal_bridge.proofs.Formed.{regular_program, apart_program, protos_program}
use Rattle.removal_bridge.proofs.removal_bridge.well_formed_programs_law.Goals as goal

pub returns-clause-regular : goal.returns-clause-regular
returns-clause-regular c = regular_program

pub returns-clause-apart : goal.returns-clause-apart
returns-clause-apart c = apart_program

pub returns-clause-protos : goal.returns-clause-protos
returns-clause-protos c = protos_program
