use Rattle.bodies_kept.proofs.CompactPrograms.{compacted_shown}
use Rattle.bodies_kept.proofs.compact_bridge.compacted_program_law.Goals as goal

pub returns : goal.returns
returns c = compacted_shown
