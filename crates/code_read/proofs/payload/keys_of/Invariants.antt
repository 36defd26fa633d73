use Rattle.code_read.specs.Payloads.{signed_in, keys_in}
use Rattle.code_read.proofs.Entries.{Reads}
use Rattle.code_read.proofs.payload.keys_of.Given as goal

abbrev pub invariant-loop-left : goal.invariant-loop-left
invariant-loop-left l = Reads (signed_in) 2 l.left l.keys.items l.rest (keys_in l.count l.units)

abbrev pub decreases-loop-left : goal.decreases-loop-left
decreases-loop-left l = l.left
