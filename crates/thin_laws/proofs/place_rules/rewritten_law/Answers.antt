use Rattle.thin_laws.proofs.Rewriting.{rewritten_formed}
use Rattle.thin_laws.proofs.place_rules.rewritten_law.Goals as goal

pub returns : goal.returns
returns c = λ p q e h. rewritten_formed p q e h
