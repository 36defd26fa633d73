use Rattle.live_regs.proofs.Seen.{MarksSoFar}
use Rattle.live_regs.proofs.sight.marks_by_walks.Given as goal

abbrev pub invariant-loop-register : goal.invariant-loop-register
invariant-loop-register l = MarksSoFar l.body l.marks.items l.register
