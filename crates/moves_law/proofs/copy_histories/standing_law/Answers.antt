use Rattle.moves_law.proofs.Standing.{stands}
use Rattle.moves_law.proofs.copy_histories.standing_law.Goals as goal

pub returns : goal.returns
returns c = λ b at slot to from copy apart ss n w kept r i. stands b at slot to from copy apart ss n w kept r i
