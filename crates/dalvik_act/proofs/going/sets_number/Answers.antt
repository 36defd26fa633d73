use Rattle.dalvik_act.proofs.going.sets_number.Goals as goal

pub returns-in-OneWord-clause-safe : goal.returns-in-OneWord-clause-safe
returns-in-OneWord-clause-safe c = λ l size low k. c.sets.ensures.safe l size tt low k
