use Rattle.moves_law.proofs.Bodies.{thinned_plan, written_plan, compacted_receivers, propagated_receivers}
use Rattle.moves_law.proofs.ReceiversRemoved.{removed_receivers}
use Rattle.moves_law.proofs.receiver_counts.receivers_left_law.Goals as goal

pub returns-clause-removed : goal.returns-clause-removed
returns-clause-removed c = removed_receivers

pub returns-clause-thinned : goal.returns-clause-thinned
returns-clause-thinned c = thinned_plan

pub returns-clause-written : goal.returns-clause-written
returns-clause-written c = written_plan

pub returns-clause-propagated : goal.returns-clause-propagated
returns-clause-propagated c = propagated_receivers

pub returns-clause-compacted : goal.returns-clause-compacted
returns-clause-compacted c = compacted_receivers
