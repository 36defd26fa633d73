use Rattle.spelled_law.proofs.Whole.{read_is_spelled}
use Rattle.spelled_law.proofs.laws.read_law.Goals as goal

pub returns : goal.returns
returns c = λ bytes p are h. read_is_spelled bytes p are h
