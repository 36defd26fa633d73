use Rattle.removal_law.proofs.Classes.{class_left}
use Rattle.removal_law.proofs.laws.classes_left_law.Goals as goal

pub returns : goal.returns
returns c = class_left
