use Rattle.refused_law.proofs.Read.{fails_its_members}
use Rattle.refused_law.proofs.laws.class_data_law.Goals as goal

pub returns : goal.returns
returns c = λ bytes are p left head table stands place less d g some e h. (fails_its_members bytes are p left head table stands place less d g some).fault e h
