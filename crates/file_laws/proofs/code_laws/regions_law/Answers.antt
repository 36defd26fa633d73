use Rattle.file_laws.proofs.Trying.{founds_regions}
use Rattle.file_laws.proofs.code_laws.regions_law.Goals as goal

pub returns : goal.returns
returns c = λ bytes at sizes places. founds_regions bytes at sizes places
