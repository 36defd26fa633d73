use Rattle.std.proofs.Common.{length, arith}
use Rattle.code_read.proofs.read.read_code.Goals as goal

pub returns-clause-few : goal.returns-clause-few
returns-clause-few c = omega (arith, c.in_ok-body.ensures.starts, c.in_ok-places.ensures.few)
