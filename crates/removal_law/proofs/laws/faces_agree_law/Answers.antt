use Rattle.removal_law.proofs.Removal.{faces_agree}
use Rattle.removal_law.proofs.laws.faces_agree_law.Goals as goal

pub returns : goal.returns
returns c = faces_agree
