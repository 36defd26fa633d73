use Rattle.domains.specs.ValueLaws.{any_reduced}
use Rattle.domains.proofs.values.Value.any.Goals as goal

pub invariant_of-result : goal.invariant_of-result
invariant_of-result c = rw (c.full.ensures, c.any.ensures) any_reduced
