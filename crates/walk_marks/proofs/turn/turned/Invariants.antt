use Rattle.walk_marks.proofs.Turning.{Turns}
use Rattle.walk_marks.proofs.turn.turned.Given as goal

abbrev pub invariant-loop-to : goal.invariant-loop-to
invariant-loop-to l = Turns l.rows l.count l.back.items l.to
