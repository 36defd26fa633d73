use Rattle.compact.proofs.Measuring.{lowers_by_number}
use Rattle.bodies_kept.proofs.compact_bridge.measure_law.Goals as goal

pub returns : goal.returns
returns c = lowers_by_number
