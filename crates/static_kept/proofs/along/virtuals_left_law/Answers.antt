use Rattle.static_kept.proofs.Left.{virtuals_numbered, virtuals_removed}
use Rattle.bodies_kept.specs.Kept.{AnyCode}
use Rattle.static_kept.proofs.along.virtuals_left_law.Goals as goal

pub returns-clause-removed : goal.returns-clause-removed
returns-clause-removed c = virtuals_removed

pub returns-clause-bodies : goal.returns-clause-bodies
returns-clause-bodies c = virtuals_numbered AnyCode
