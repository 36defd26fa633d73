use Rattle.std.proofs.Common.{refl}
use Rattle.moves_law.proofs.moves_law.example_law.Goals as goal

pub returns-clause-copy : goal.returns-clause-copy
returns-clause-copy c = refl

pub returns-clause-original : goal.returns-clause-original
returns-clause-original c = refl
