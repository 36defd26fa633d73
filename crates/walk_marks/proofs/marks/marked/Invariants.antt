use Rattle.std.proofs.Common.{◌+◌, length}
use Rattle.walk_marks.specs.Steps.{unmarked}
use Rattle.walk_marks.proofs.Marking.{Spreads}
use Rattle.walk_marks.proofs.marks.marked.Given as goal

abbrev pub invariant-loop-node : goal.invariant-loop-node
invariant-loop-node g l = Spreads l.rows (g.G.Gate.lets l.gate) l.seeds l.marks.items l.waiting.items

abbrev pub decreases-loop-node : goal.decreases-loop-node
decreases-loop-node g l = unmarked l.marks.items + length l.waiting.items
