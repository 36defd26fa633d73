use Rattle.static_kept.proofs.May.{all_may}
use Rattle.static_kept.proofs.static_choice.may_law.Goals as goal

pub returns : goal.returns
returns c = λ p facts o admitted w twice ancestor plan. all_may p facts o admitted w twice ancestor plan
