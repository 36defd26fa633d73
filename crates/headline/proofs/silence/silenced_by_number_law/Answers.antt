use Rattle.headline.proofs.Silenced.{silenced_named}
use Rattle.headline.proofs.silence.silenced_by_number_law.Goals as goal

pub returns : goal.returns
returns c = silenced_named
