use Rattle.domains.specs.Ranges.{range_upper}
use Rattle.domains.proofs.ranges.IntervalLattice.join.Goals as goal

pub returns-clause-over : goal.returns-clause-over
returns-clause-over c = rw c.either.ensures (range_upper c.args.self.now c.args.other.now)
