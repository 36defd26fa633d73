use Rattle.dead_code.specs.Wishes.{AreCleaned}
use Rattle.squeeze.specs.Skipping.{AreSkips}
use Rattle.bodies_kept.proofs.PassesStay.{removed_stays, thinned_stays, propagated_stays, compacted_stays}
use Rattle.bodies_kept.proofs.RewrittenStay.{rewritten_stays}
use Rattle.bodies_kept.proofs.stay_law.passes_stay_law.Goals as goal

pub returns-clause-removed : goal.returns-clause-removed
returns-clause-removed c = removed_stays

pub returns-clause-cleaned : goal.returns-clause-cleaned
returns-clause-cleaned c = λ admitted quiet p c. thinned_stays admitted (AreCleaned quiet) p c

pub returns-clause-squeezed : goal.returns-clause-squeezed
returns-clause-squeezed c = λ admitted p c. thinned_stays admitted AreSkips p c

pub returns-clause-rewritten : goal.returns-clause-rewritten
returns-clause-rewritten c = rewritten_stays (λ at m b es. Unit {0})

pub returns-clause-propagated : goal.returns-clause-propagated
returns-clause-propagated c = propagated_stays

pub returns-clause-compacted : goal.returns-clause-compacted
returns-clause-compacted c = compacted_stays
