use Rattle.hierarchy.proofs.Marks.{ClearedSoFar}
use Rattle.hierarchy.proofs.walk.forget.Given as goal

abbrev pub invariant-loop-class : goal.invariant-loop-class
invariant-loop-class l = ClearedSoFar l.list l.initial.seen l.seen l.class-index
