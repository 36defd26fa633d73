use Rattle.reach.proofs.Sizes.{left_is_no_more, left_is_less, left_is_same}
use Rattle.reach.proofs.remove.keep_live.Goals as goal

pub returns-clause-falls : goal.returns-clause-falls
returns-clause-falls c = left_is_no_more c.args.live.now c.args.program _ c.keep_all-count.ensures.kept

pub returns-clause-same : goal.returns-clause-same
returns-clause-same c = left_is_same c.args.live.now c.args.program _ _ c.keep_all-count.ensures.kept c.keep_all-count.ensures.count

pub returns-clause-less : goal.returns-clause-less
returns-clause-less c = left_is_less c.args.live.now c.args.program _ _ c.keep_all-count.ensures.kept c.keep_all-count.ensures.count
