use Rattle.pass_defs.proofs.Writes.{written_below}
use Rattle.pass_defs.proofs.laws.a_write_keeps_the_order_law.Goals as goal

pub returns : goal.returns
returns c = written_below
