use Rattle.moves_law.proofs.Thinned.{planned_numbers}
use Rattle.moves_law.proofs.numbers_law.thinned_numbers_law.Goals as goal

pub returns : goal.returns
returns c = λ plan p. planned_numbers plan p
