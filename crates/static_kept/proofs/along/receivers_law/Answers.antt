use Rattle.static_kept.proofs.Fewer.{receivers_fewer, receivers_removed, receivers_same}
use Rattle.bodies_kept.specs.Kept.{AnyCode}
use Rattle.static_kept.proofs.along.receivers_law.Goals as goal

pub returns-clause-removed : goal.returns-clause-removed
returns-clause-removed c = receivers_removed

pub returns-clause-bodies : goal.returns-clause-bodies
returns-clause-bodies c = receivers_same AnyCode

pub returns-clause-made : goal.returns-clause-made
returns-clause-made c = receivers_fewer
