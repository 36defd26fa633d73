use Rattle.pass_defs.proofs.FlatSound.{flat_sound}
use Rattle.pass_defs.proofs.laws.flat_values_are_sound_law.Goals as goal

pub returns : goal.returns
returns c = flat_sound
