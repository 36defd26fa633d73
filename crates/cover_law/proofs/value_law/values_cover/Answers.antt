use Rattle.run_facts.specs.ValueAnalysis.{value_analysis}
use Rattle.cover_law.proofs.Runs.{covered_regular}
use Rattle.cover_law.proofs.Sound.{value_sound}
use Rattle.cover_law.specs.Operators.{operators}
use Rattle.cover_law.proofs.value_law.values_cover.Goals as goal

pub returns : goal.returns
returns c = λ p o f floats facts script n h fit.
    covered_regular (value_analysis p operators) p o f floats facts script n (record { tabled = h; sound = value_sound p o f floats script h.regular h.acyclic fit }) fit
