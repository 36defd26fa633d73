use Rattle.read_laws.proofs.Interfaces.{all_stand_free}
use Rattle.read_laws.proofs.members.interfaces_law.Goals as goal

pub returns : goal.returns
returns c = λ bytes p h. all_stand_free bytes p h
