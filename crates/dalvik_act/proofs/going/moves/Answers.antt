use Rattle.dalvik_act.proofs.Safe.{held_fine}
use Rattle.dalvik_act.proofs.going.moves.Goals as goal

pub returns-in-Word-clause-safe : goal.returns-in-Word-clause-safe
returns-in-Word-clause-safe c = λ l size low k. c.sets.ensures.safe l size (held_fine l size c.args.frame.now c.args.from c.get-datum.result k c.get-datum.ensures) low k
