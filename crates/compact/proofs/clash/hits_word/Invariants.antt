use Rattle.std.proofs.Common.{take}
use Rattle.std.specs.List.{list_any}
use Rattle.live_regs.specs.Words.{IsMask}
use Rattle.compact.specs.Clashes.{is_hit}
use Rattle.compact.proofs.clash.hits_word.Given as goal

abbrev pub invariant-loop-position : goal.invariant-loop-position
invariant-loop-position l = IsMask (λ s. list_any (is_hit l.live l.insns s) (take l.position-index l.writers)) l.word
