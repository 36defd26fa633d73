use Rattle.bodies_kept.proofs.Staying.{stays_same, stays_on, stays_behind, stays_before}
use Rattle.bodies_kept.proofs.stay_law.stays_law.Goals as goal

pub returns-clause-same : goal.returns-clause-same
returns-clause-same c = stays_same

pub returns-clause-twice : goal.returns-clause-twice
returns-clause-twice c = stays_on

pub returns-clause-behind : goal.returns-clause-behind
returns-clause-behind c = stays_behind

pub returns-clause-before : goal.returns-clause-before
returns-clause-before c = stays_before
