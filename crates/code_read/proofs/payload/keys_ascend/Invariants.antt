use Rattle.std.proofs.Common.{◌≡◌}
use Rattle.insn_set.specs.Spelling.{keys_ascend}
use Rattle.code_read.specs.Payloads.{keys_in}
use Rattle.code_read.proofs.payload.keys_ascend.Given as goal

abbrev pub invariant-loop-left : goal.invariant-loop-left
invariant-loop-left l = keys_ascend (keys_in l.left l.rest) ≡ keys_ascend (keys_in l.count l.units)

abbrev pub decreases-loop-left : goal.decreases-loop-left
decreases-loop-left l = l.left
