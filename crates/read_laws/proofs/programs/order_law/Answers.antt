use Rattle.read_laws.proofs.Rising.{strings_rise}
use Rattle.read_laws.proofs.programs.order_law.Goals as goal

pub returns : goal.returns
returns c = strings_rise
