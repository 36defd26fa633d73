use Rattle.verify.proofs.Ranks.{lattice_of}
use Rattle.verify.proofs.laws.joins_law.Goals as goal

pub returns : goal.returns
returns c = lattice_of
