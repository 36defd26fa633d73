use Rattle.file_laws.proofs.ClassData.{founds_members}
use Rattle.file_laws.proofs.file_laws.class_data_law.Goals as goal

pub returns : goal.returns
returns c = λ bytes p owner at. founds_members bytes p owner at
