use Rattle.std.proofs.Common.{take}
use Rattle.live_regs.specs.Words.{IsMask, has_any}
use Rattle.live_regs.proofs.words.together.Given as goal

abbrev pub invariant-loop-place : goal.invariant-loop-place
invariant-loop-place l = IsMask (λ r. has_any l.words r (take l.place-index l.places)) l.word
