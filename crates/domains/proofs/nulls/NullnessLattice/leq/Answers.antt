use Rattle.domains.specs.Nulls.{null_within}
use Rattle.domains.proofs.nulls.NullnessLattice.leq.Goals as goal

pub returns : goal.returns
returns c = rw c.is_within.ensures (null_within c.args.self.now c.args.other.now)
