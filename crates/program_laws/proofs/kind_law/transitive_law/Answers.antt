use Rattle.program_laws.proofs.Transitive.{transitive}
use Rattle.program_laws.proofs.kind_law.transitive_law.Goals as goal

pub returns : goal.returns
returns c = λ p regular a b k e d. transitive p regular a b k e d
