use Rattle.cover_law.proofs.Sound.{value_sound}
use Rattle.cover_law.proofs.value_law.values_are_sound.Goals as goal

pub returns : goal.returns
returns c = value_sound
