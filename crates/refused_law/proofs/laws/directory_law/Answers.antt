use Rattle.refused_law.proofs.ReadDirectories.{fails_its_directory}
use Rattle.refused_law.proofs.laws.directory_law.Goals as goal

pub returns : goal.returns
returns c = λ bytes are p left head table stands place less d h m g some fields methods behind e f. (fails_its_directory bytes are p left head table stands place less d h m g some fields methods behind).fault e f
