use Rattle.program_laws.proofs.Silent.{silenced_holds}
use Rattle.program_laws.proofs.shut_law.silenced_law.Goals as goal

pub returns : goal.returns
returns c = λ p o admitted holds. silenced_holds p o admitted holds
