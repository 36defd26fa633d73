use Rattle.std.proofs.Common.{◌≡◌}
use Rattle.dom_frame.specs.Registers.{filled}
use Rattle.dom_frame.proofs.registers.filled.Given as goal

abbrev pub invariant-loop-register : goal.invariant-loop-register
invariant-loop-register l = l.registers ≡ filled l.register l.value
