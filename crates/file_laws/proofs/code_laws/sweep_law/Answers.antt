use Rattle.file_laws.proofs.Sweeping.{founds_pieces}
use Rattle.file_laws.proofs.code_laws.sweep_law.Goals as goal

pub returns : goal.returns
returns c = λ units. founds_pieces units
