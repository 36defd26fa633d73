use Rattle.class_defs.proofs.WellFormed.{sound}
use Rattle.static_kept.proofs.MadeStatic.{chosen}
use Rattle.static_kept.proofs.Planned.{free, planned_by}
use Rattle.static_kept.proofs.static_choice.planned_law.Goals as goal

pub returns-clause-planned : goal.returns-clause-planned
returns-clause-planned c = λ p facts o admitted w twice plan. planned_by p facts o admitted (sound p w) twice (chosen p facts o admitted plan)

pub returns-clause-free : goal.returns-clause-free
returns-clause-free c = λ p facts o admitted w twice plan. free p facts o admitted (sound p w) twice (chosen p facts o admitted plan)
