use Rattle.spelled_law.proofs.OnceFile.{spells_once}
use Rattle.spelled_law.proofs.laws.one_program_law.Goals as goal

pub returns : goal.returns
returns c = λ bytes p q are a b. spells_once bytes p q are a b
