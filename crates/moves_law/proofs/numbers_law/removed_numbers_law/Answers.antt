use Rattle.moves_law.proofs.NumbersRemoved.{removed_numbers}
use Rattle.moves_law.proofs.numbers_law.removed_numbers_law.Goals as goal

pub returns : goal.returns
returns c = λ marks p. removed_numbers marks p
