use Rattle.static_kept.proofs.Whole.{staticised_formed}
use Rattle.static_kept.proofs.static_formed.static_formed_law.Goals as goal

pub returns : goal.returns
returns c = λ p facts o admitted x wf once h. staticised_formed p facts o admitted x wf once h
