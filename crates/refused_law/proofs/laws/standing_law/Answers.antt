use Rattle.refused_law.proofs.Read.{fails_stands}
use Rattle.refused_law.proofs.laws.standing_law.Goals as goal

pub returns : goal.returns
returns c = λ bytes are p left head classes budget read e h. (fails_stands bytes are p left head classes budget read).fault e h
