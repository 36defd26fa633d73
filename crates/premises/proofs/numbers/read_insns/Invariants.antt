use Rattle.std.proofs.Common.{All, take}
use Rattle.premises.specs.Numbers.{HasWords}
use Rattle.premises.proofs.numbers.read_insns.Given as goal

abbrev pub invariant-loop-insn : goal.invariant-loop-insn
invariant-loop-insn l = All HasWords (take l.insn-index l.insns)
