use Rattle.static_law.proofs.Holding.{still_hold}
use Rattle.static_law.proofs.static_shut.static_shut_law.Goals as goal

pub returns : goal.returns
returns c = still_hold
