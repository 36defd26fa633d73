use Rattle.code_read.specs.Handlers.{lists_from}
use Rattle.code_read.proofs.Walks.{Offsets}
use Rattle.code_read.proofs.handlers.offsets_from.Given as goal

abbrev pub invariant-loop-left : goal.invariant-loop-left
invariant-loop-left l = Offsets l.bytes l.offsets.items l.left l.at (lists_from l.count l.bytes l.first)

abbrev pub decreases-loop-left : goal.decreases-loop-left
decreases-loop-left l = l.left
