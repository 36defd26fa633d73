use Rattle.domains.specs.ValueLaws.{wide_reduced}
use Rattle.domains.proofs.values.Value.wide.Goals as goal

pub invariant_of-result : goal.invariant_of-result
invariant_of-result c = rw (c.empty.ensures, c.none.ensures) (wide_reduced c.args.number)
