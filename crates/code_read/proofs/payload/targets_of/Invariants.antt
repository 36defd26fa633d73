use Rattle.code_read.specs.Payloads.{signed_in, targets_in}
use Rattle.code_read.specs.Positions.{target_from}
use Rattle.code_read.proofs.Entries.{Reads}
use Rattle.code_read.proofs.payload.targets_of.Given as goal

abbrev pub invariant-loop-left : goal.invariant-loop-left
invariant-loop-left l = Reads (λ us. target_from l.places.starts.items l.start (signed_in us)) 2 l.left l.targets.items l.rest (targets_in (target_from l.places.starts.items l.start) l.count l.units)

abbrev pub decreases-loop-left : goal.decreases-loop-left
decreases-loop-left l = l.left
