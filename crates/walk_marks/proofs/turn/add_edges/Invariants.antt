use Rattle.std.proofs.Common.{take, Contains}
use Rattle.walk_marks.specs.Steps.{Adds}
use Rattle.walk_marks.proofs.turn.add_edges.Given as goal

abbrev pub invariant-loop-from : goal.invariant-loop-from
invariant-loop-from l = Adds (Contains (take l.from-index l.row)) l.to l.initial.rows.items l.rows.items
