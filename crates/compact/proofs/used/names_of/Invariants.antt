use Rattle.walk_marks.specs.Walks.{is_on}
use Rattle.compact.proofs.Naming.{Named}
use Rattle.compact.proofs.used.names_of.Given as goal

abbrev pub invariant-loop-register : goal.invariant-loop-register
invariant-loop-register l = Named (is_on l.used) l.register l.names.items
