use Rattle.removal_law.proofs.LeftTyped.{typed_left}
use Rattle.removal_law.proofs.laws.typed_left_law.Goals as goal

pub returns : goal.returns
returns c = typed_left
