use Rattle.thin_laws.proofs.Formed.{recoded_formed}
use Rattle.thin_laws.proofs.formed_law.formed_law.Goals as goal

pub returns : goal.returns
returns c = λ p q e h. recoded_formed p q h e
