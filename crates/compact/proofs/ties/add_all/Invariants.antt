use Rattle.std.proofs.Common.{◌≡◌, ◌++◌, take}
use Rattle.compact.proofs.ties.add_all.Given as goal

abbrev pub invariant-loop-register : goal.invariant-loop-register
invariant-loop-register l = l.found.items ≡ l.initial.found.items ++ take l.register-index l.registers
