use Rattle.staticise.proofs.Limits.{all_sound}
use Rattle.staticise.proofs.laws.sound_law.Goals as goal

pub returns : goal.returns
returns c = λ p facts o admitted wf. all_sound p facts o admitted wf
