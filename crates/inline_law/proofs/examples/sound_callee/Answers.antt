use Rattle.inline_law.proofs.Instance.{is_sound}
use Rattle.inline_law.proofs.examples.sound_callee.Goals as goal

pub returns : goal.returns
returns c = is_sound
