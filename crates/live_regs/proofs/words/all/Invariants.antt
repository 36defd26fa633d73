use Rattle.std.proofs.Common.{take, nat_eq}
use Rattle.std.specs.List.{list_any}
use Rattle.live_regs.specs.Words.{IsMask}
use Rattle.live_regs.proofs.words.all.Given as goal

abbrev pub invariant-loop-register : goal.invariant-loop-register
invariant-loop-register l = IsMask (λ r. list_any (λ a. nat_eq a r) (take l.register-index l.registers)) l.word
