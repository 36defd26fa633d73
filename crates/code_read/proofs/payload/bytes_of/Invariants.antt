use Rattle.code_read.specs.Payloads.{bytes_in}
use Rattle.code_read.proofs.Entries.{ReadsBytes}
use Rattle.code_read.proofs.payload.bytes_of.Given as goal

abbrev pub invariant-loop-left : goal.invariant-loop-left
invariant-loop-left l = ReadsBytes l.left l.bytes.items l.rest (bytes_in l.count l.units)

abbrev pub decreases-loop-left : goal.decreases-loop-left
decreases-loop-left l = l.left
