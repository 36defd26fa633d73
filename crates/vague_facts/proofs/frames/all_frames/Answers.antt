use Rattle.std.proofs.Common.{length, ap, arith}
use Rattle.vague_facts.proofs.frames.all_frames.Goals as goal

pub loop-count-init : goal.loop-count-init
loop-count-init c = record { long = ap length c.in_ok-frames.ensures.items; come = λ n lt. absurd (omega (arith, lt)) }

pub returns : goal.returns
returns c = λ n lt. c.loop-count.invariant.come n (omega (arith, lt, c.loop-count-test.false))
