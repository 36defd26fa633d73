use Rattle.std.proofs.Common.{◌≡◌, ◌++◌, drop, map}
use Rattle.dalvik_state.specs.Frames.{cell}
use Rattle.dalvik_state.proofs.items.values_of.Given as goal

abbrev pub invariant-loop-register : goal.invariant-loop-register
invariant-loop-register l = l.values.items ++ map (cell l.frame.registers.items) (drop l.register-index l.args) ≡ map (cell l.frame.registers.items) l.args
