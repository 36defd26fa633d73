use Rattle.domains.specs.ValueLaws.{widened_reduced, widened_value}
use Rattle.domains.proofs.values.ValueDomain.widen.Goals as goal

pub invariant_of-result : goal.invariant_of-result
invariant_of-result c = rw (c.in_ok-widen.ensures.is, c.in_ok-widen-2.ensures.is, c.in_ok-widen-3.ensures.is, c.in_ok-widen-4.ensures.is) (widened_reduced _ _ c.self.invariant c.newer.invariant)

pub returns-clause-falls : goal.returns-clause-falls
returns-clause-falls c = rw (← c.self.view_is) (widened_value _ _ _ _ _ _ _ _ _ _ _ c.in_ok-widen.ensures.falls c.in_ok-widen-2.ensures.falls c.in_ok-widen-3.ensures.falls c.in_ok-widen-4.ensures.falls)
