use Rattle.std.proofs.Common.{◌≡◌, drop}
use Rattle.program_model.specs.Lookups.{method_from}
use Rattle.program_model.proofs.lookups.method_named.Given as goal

abbrev pub invariant-loop-place : goal.invariant-loop-place
invariant-loop-place l = method_from 0 l.program.classes l.method ≡ method_from l.place (drop l.place l.program.classes) l.method
