use Rattle.thin_laws.proofs.Formed.{recoded_formed}
use Rattle.thin_laws.proofs.Tidied.{tidied_recoded}
use Rattle.thin_laws.proofs.thin_rules.thinned_formed_law.Goals as goal

pub returns : goal.returns
returns c = λ p q h t. recoded_formed p q (tidied_recoded p q h t) h
