use Rattle.run_facts.specs.ValueAnalysis.{value_analysis}
use Rattle.facts_kept.proofs.Apart.{tabled}
use Rattle.facts_kept.proofs.tabled_law.tabled_law.Goals as goal

pub returns : goal.returns
returns c p numbers o f facts = tabled (value_analysis p numbers) p o f facts
