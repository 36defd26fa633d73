use Rattle.class_defs.proofs.WellFormed.{sound}
use Rattle.static_kept.proofs.Edited.{edited_by}
use Rattle.static_kept.proofs.MadeStatic.{chosen}
use Rattle.static_kept.proofs.static_choice.edited_law.Goals as goal

pub returns : goal.returns
returns c = λ p q facts o admitted w twice plan x. edited_by p facts o admitted (sound p w) twice q (chosen p facts o admitted plan) x
