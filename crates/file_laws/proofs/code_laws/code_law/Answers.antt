use Rattle.file_laws.proofs.Bodies.{founds_code}
use Rattle.file_laws.proofs.code_laws.code_law.Goals as goal

pub returns : goal.returns
returns c = λ units tries sizes few. founds_code units tries sizes few
