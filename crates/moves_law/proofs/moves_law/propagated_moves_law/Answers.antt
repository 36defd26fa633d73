use Rattle.moves_law.proofs.MovesPropagated.{propagated_no_more, propagated_fewer}
use Rattle.moves_law.proofs.moves_law.propagated_moves_law.Goals as goal

pub returns-clause-most : goal.returns-clause-most
returns-clause-most c = propagated_no_more

pub returns-clause-less : goal.returns-clause-less
returns-clause-less c = propagated_fewer
