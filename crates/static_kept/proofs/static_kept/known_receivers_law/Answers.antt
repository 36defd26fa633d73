use Rattle.static_kept.proofs.Known.{knows_receivers}
use Rattle.static_kept.proofs.Made.{plan_of}
use Rattle.static_kept.proofs.static_kept.known_receivers_law.Goals as goal

pub returns : goal.returns
returns c = λ p facts o admitted w twice ancestor. knows_receivers p facts o admitted w twice ancestor (plan_of p facts o admitted w)
