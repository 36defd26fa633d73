use Rattle.headline.proofs.Repeated.{accepted_sound}
use Rattle.headline.proofs.rounds.accepted_sound_law.Goals as goal

pub returns : goal.returns
returns c = accepted_sound
