use Rattle.write_laws.proofs.Ranges.{ranges_kept}
use Rattle.write_laws.proofs.names_law.ranges_law.Goals as goal

pub returns : goal.returns
returns c = ranges_kept
