use Rattle.program_laws.proofs.Order.{order_shown}
use Rattle.program_laws.proofs.remade_law.order_law.Goals as goal

pub returns : goal.returns
returns c = order_shown
