use Rattle.std.proofs.Common.{◌≡◌, ◌++◌, map, take, drop}
use Rattle.insn_regs.specs.Remade.{remade}
use Rattle.compact.specs.Renamed.{renamed}
use Rattle.compact.proofs.numbers.renumber.Given as goal

abbrev pub invariant-loop-insn : goal.invariant-loop-insn
invariant-loop-insn l = l.insns ≡ map (remade (renamed l.numbers.low.items l.numbers.shift) (renamed l.numbers.low.items l.numbers.shift)) (take l.insn-index l.initial.insns) ++ drop l.insn-index l.initial.insns
