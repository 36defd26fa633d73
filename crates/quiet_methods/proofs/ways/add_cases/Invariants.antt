use Rattle.std.proofs.Common.{◌≡◌, ◌++◌}
use Rattle.quiet_methods.specs.Forms.{cases_upto}
use Rattle.quiet_methods.proofs.ways.add_cases.Given as goal

abbrev pub invariant-loop-place : goal.invariant-loop-place
invariant-loop-place l = l.out.items ≡ l.initial.out.items ++ cases_upto l.insn l.targets l.registers l.place
