use Rattle.copy_prop.proofs.Adding.{Adding}
use Rattle.copy_prop.proofs.stale.add_copy.Given as goal

abbrev pub invariant-loop-place : goal.invariant-loop-place
invariant-loop-place l = Adding l.copy l.marks l.place l.initial.table.items l.table.items
