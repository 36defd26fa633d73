use Rattle.body_edit.proofs.Swapped.{LeftSoFar}
use Rattle.body_edit.proofs.keeping.keep_left.Given as goal

abbrev pub invariant-loop-position : goal.invariant-loop-position
invariant-loop-position g l = LeftSoFar l.fates l.initial.items.items l.items.items l.kept l.position
