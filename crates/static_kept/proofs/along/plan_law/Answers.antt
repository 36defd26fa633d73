use Rattle.static_kept.proofs.Made.{plan_of}
use Rattle.static_kept.proofs.along.plan_law.Goals as goal

pub returns : goal.returns
returns c = plan_of
