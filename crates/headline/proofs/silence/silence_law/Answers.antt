use Rattle.headline.proofs.Optimised.{silent_named}
use Rattle.headline.proofs.silence.silence_law.Goals as goal

pub returns : goal.returns
returns c = λ p q h o admitted formed resolved acyclic whole silent. silent_named p h formed resolved acyclic whole o admitted q silent
