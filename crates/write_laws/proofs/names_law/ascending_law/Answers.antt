use Rattle.write_laws.proofs.Rising.{all_ascend}
use Rattle.write_laws.proofs.names_law.ascending_law.Goals as goal

pub returns : goal.returns
returns c = all_ascend
