use Rattle.refused_law.proofs.Headers.{fails_header}
use Rattle.refused_law.proofs.laws.header_law.Goals as goal

pub returns : goal.returns
returns c = λ bytes e h. (fails_header bytes).fault e h
