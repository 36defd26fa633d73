use Rattle.read_laws.proofs.Conjuncts.{all_limits}
use Rattle.read_laws.proofs.tables.limits_law.Goals as goal

pub returns : goal.returns
returns c = λ bytes p b h. all_limits bytes p b h
