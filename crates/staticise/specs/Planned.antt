-- What is found before anything is written.
use Rattle.std.specs.Prelude.{◌≡◌, ◌<◌, List, Bool, Option, None, Some}
use Rattle.program_model.specs.declared.pass.Outside.{Outside}
use Rattle.program_model.specs.declared.program.Program.{Program}
use Rattle.facts.specs.declared.facts.Facts.{Facts}
use Rattle.static_protos.specs.declared.growth.Growth.{Growth}
use Rattle.static_protos.specs.Growing.{IsGrowth}
use Rattle.staticise.specs.Judging.{judged}
use Rattle.staticise.specs.Loosened.{count_given}

-- what the tables get for the loose methods, or that there are none
abbrev pub IsPlanned : Program → Facts → Outside → List Bool → Option Growth → Type 0
IsPlanned p facts o admitted None = count_given (judged p facts o admitted) ≡ 0
IsPlanned p facts o admitted (Some g) = IsGrowth p (judged p facts o admitted) g × (0 < count_given (judged p facts o admitted))
