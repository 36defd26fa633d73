use Rattle.reach.proofs.Formed.{left_is_formed}
use Rattle.reach.proofs.remove.apply.Goals as goal

pub returns-clause-closed : goal.returns-clause-closed
returns-clause-closed c = λ fits is. (c.in_ok-live.live, c.in_ok-live.ensures.fits, c.in_ok-live.ensures.closed fits is, c.in_ok-live.ensures.least fits is, c.keep_live.ensures.kept)

pub returns-clause-formed : goal.returns-clause-formed
returns-clause-formed c = left_is_formed c.in_ok-live.live c.args.program _ c.keep_live.ensures.kept
