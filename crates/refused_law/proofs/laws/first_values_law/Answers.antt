use Rattle.refused_law.proofs.ReadFirsts.{fails_its_firsts}
use Rattle.refused_law.proofs.laws.first_values_law.Goals as goal

pub returns : goal.returns
returns c = λ bytes are p left head table stands place less d h m g fields behind named e f. (fails_its_firsts bytes are p left head table stands place less d h m g fields behind named).fault e f
