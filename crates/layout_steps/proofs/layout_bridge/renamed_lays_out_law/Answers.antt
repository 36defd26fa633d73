use Rattle.layout_steps.proofs.Renamed.{propagated_lies, compacted_lies}
use Rattle.layout_steps.proofs.layout_bridge.renamed_lays_out_law.Goals as goal

pub returns-clause-propagated : goal.returns-clause-propagated
returns-clause-propagated c = propagated_lies

pub returns-clause-compacted : goal.returns-clause-compacted
returns-clause-compacted c = compacted_lies
