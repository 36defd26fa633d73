use Rattle.std.proofs.Common.{take}
use Rattle.std.specs.List.{list_any}
use Rattle.live_regs.specs.Words.{IsMask, has, word_at}
use Rattle.live_regs.proofs.sweeps.caught_word.Given as goal

abbrev pub invariant-loop-handler : goal.invariant-loop-handler
invariant-loop-handler l = IsMask (λ r. list_any (λ h. has (word_at l.words h.position) r) (take l.handler-index l.handlers)) l.word
