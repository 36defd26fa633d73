use Rattle.run_facts.specs.ValueAnalysis.{value_analysis}
use Rattle.cover_law.proofs.Runs.{covered_regular}
use Rattle.cover_law.proofs.cover_law.values_cover.Goals as goal

pub returns : goal.returns
returns c = λ p numbers o f floats facts script n base fit. covered_regular (value_analysis p numbers) p o f floats facts script n base fit
