use Rattle.domains.specs.ValueLaws.{joined_reduced}
use Rattle.domains.proofs.values.ValueLattice.join.Goals as goal

pub invariant_of-result : goal.invariant_of-result
invariant_of-result c = rw (c.in_ok-join.ensures.is, c.in_ok-join-2.ensures.is, c.in_ok-join-3.ensures.is, c.in_ok-join-4.ensures.is) (joined_reduced _ _ c.self.invariant c.other.invariant)
