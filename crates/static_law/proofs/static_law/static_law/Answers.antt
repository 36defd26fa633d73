use Rattle.static_law.proofs.Loosened.{static_shown}
use Rattle.static_law.proofs.static_law.static_law.Goals as goal

pub returns : goal.returns
returns c = static_shown
