use Rattle.verify.proofs.Writes.{written_below}
use Rattle.verify.proofs.laws.writes_law.Goals as goal

pub returns : goal.returns
returns c = written_below
