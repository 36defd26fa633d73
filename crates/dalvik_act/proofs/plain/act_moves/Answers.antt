use Rattle.dalvik_act.proofs.plain.act_moves.Goals as goal

pub returns-in-MoveResult-clause-safe : goal.returns-in-MoveResult-clause-safe
returns-in-MoveResult-clause-safe c = λ l size low k. c.sets_slot.ensures.safe l size k.result low k

pub returns-in-MoveException-clause-safe : goal.returns-in-MoveException-clause-safe
returns-in-MoveException-clause-safe c = λ l size low k. c.sets.ensures.safe l size k.caught low k
