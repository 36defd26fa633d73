use Rattle.run_laws.proofs.Wides.{wides_regular}
use Rattle.run_laws.proofs.stuck_law.wides_whole.Goals as goal

pub returns : goal.returns
returns c = wides_regular
