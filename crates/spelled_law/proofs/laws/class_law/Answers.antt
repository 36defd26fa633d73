use Rattle.spelled_law.proofs.Classes.{founds_class}
use Rattle.spelled_law.proofs.laws.class_law.Goals as goal

pub returns : goal.returns
returns c = λ bytes p classes at place left few. founds_class bytes few p classes at place left
