use Rattle.run_facts.specs.ValueAnalysis.{value_analysis}
use Rattle.rebind_law.proofs.ByFacts.{by_facts_shown}
use Rattle.rebind_law.proofs.rebind_law.by_facts_law.Goals as goal

pub returns : goal.returns
returns c = λ p q o numbers facts base h. by_facts_shown (value_analysis p numbers) p q o facts base h
