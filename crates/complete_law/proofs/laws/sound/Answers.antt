use Rattle.complete_law.proofs.Sound.{sound}
use Rattle.complete_law.proofs.laws.sound.Goals as goal

pub returns : goal.returns
returns c = sound
