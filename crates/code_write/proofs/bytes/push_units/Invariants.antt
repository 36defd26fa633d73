use Rattle.std.proofs.Common.{◌≡◌, ◌++◌, take}
use Rattle.code_write.specs.Units.{unit_bytes}
use Rattle.code_write.proofs.bytes.push_units.Given as goal

abbrev pub invariant-loop-unit : goal.invariant-loop-unit
invariant-loop-unit l = l.out.items ≡ l.fn.out.items ++ unit_bytes (take l.unit-index l.units)
