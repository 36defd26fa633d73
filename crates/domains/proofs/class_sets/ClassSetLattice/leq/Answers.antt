use Rattle.domains.specs.ClassSets.{set_within}
use Rattle.domains.proofs.class_sets.ClassSetLattice.leq.Goals as goal

pub returns : goal.returns
returns c = rw c.is_within.ensures (set_within c.args.self.now c.args.other.now)
