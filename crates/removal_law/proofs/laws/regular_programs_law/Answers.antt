use Rattle.removal_law.proofs.Acyclic.{regular}
use Rattle.removal_law.proofs.Protos.{told_apart, protos_told}
use Rattle.removal_law.proofs.laws.regular_programs_law.Goals as goal

pub returns-clause-regular : goal.returns-clause-regular
returns-clause-regular c = regular

pub returns-clause-apart : goal.returns-clause-apart
returns-clause-apart c = told_apart

pub returns-clause-protos : goal.returns-clause-protos
returns-clause-protos c = protos_told
