use Rattle.static_kept.proofs.PlanStays.{stays_but}
use Rattle.static_kept.proofs.static_choice.stays_law.Goals as goal

pub returns : goal.returns
returns c = λ p q facts o admitted plan untouched x. stays_but p q facts o admitted plan untouched x
