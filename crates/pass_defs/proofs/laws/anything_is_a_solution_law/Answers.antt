use Rattle.pass_defs.proofs.Anything.{anything_closed}
use Rattle.pass_defs.proofs.laws.anything_is_a_solution_law.Goals as goal

pub returns : goal.returns
returns c = anything_closed
