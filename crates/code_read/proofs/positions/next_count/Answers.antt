use Rattle.std.proofs.Common.{arith}
use Rattle.code_read.proofs.Rises.{next_yes, next_no}
use Rattle.code_read.proofs.positions.next_count.Goals as goal
use Rattle.code_read.proofs.positions.next_count.Goals.{else-place-starts-via-then-place-starts+else-starts-place, else-place-starts-via-else-place-starts}

pub returns-then-starts-place : goal.returns-then-starts-place
returns-then-starts-place c = next_yes _ _ _ c.requires.rise c.requires.before c.if-place-starts.true c.if-starts-place.true

pub returns-else-place-starts : goal.returns-else-place-starts
returns-else-place-starts c = next_no _ _ _ c.requires.rise c.requires.before (elim c.else-place-starts.branch [
  | else-place-starts-via-then-place-starts+else-starts-place w ↦ λ lt. w.if-starts-place.false
  | else-place-starts-via-else-place-starts w ↦ λ lt. absurd (omega (arith, lt, w.if-place-starts.false))
])
