use Rattle.removal_law.proofs.Removal.{equal_events}
use Rattle.removal_law.proofs.laws.steps_are_equal_law.Goals as goal

pub returns : goal.returns
returns c = equal_events
