use Rattle.domains.specs.ReducingLaws.{wide_with_reduced}
use Rattle.domains.proofs.values.with_number.Goals as goal

pub invariant_of-result : goal.invariant_of-result
invariant_of-result c = rw c.empty.ensures (wide_with_reduced c.in-KnownWide.number c.args.classes)
