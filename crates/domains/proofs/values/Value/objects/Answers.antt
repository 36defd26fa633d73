use Rattle.domains.specs.ValueLaws.{objects_reduced, objects_held}
use Rattle.domains.proofs.values.Value.objects.Goals as goal

pub invariant_of-result : goal.invariant_of-result
invariant_of-result c = rw (c.empty.ensures, c.presence-nullness.ensures) (objects_reduced c.args.classes)

pub returns-clause-held : goal.returns-clause-held
returns-clause-held c = rw (c.empty.ensures, c.presence-nullness.ensures) (objects_held c.args.classes)
