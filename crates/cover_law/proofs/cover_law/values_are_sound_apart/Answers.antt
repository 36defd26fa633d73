use Rattle.cover_law.proofs.ValueSound.{values_apart}
use Rattle.cover_law.proofs.cover_law.values_are_sound_apart.Goals as goal

pub returns : goal.returns
returns c = values_apart
