use Rattle.std.proofs.Common.{◌+◌, ◌-◌}
use Rattle.code_read.specs.Branches.{registers_from}
use Rattle.code_read.proofs.Entries.{ReadsRegisters}
use Rattle.code_read.proofs.decode.range_of.Given as goal

abbrev pub invariant-loop-place : goal.invariant-loop-place
invariant-loop-place l = ReadsRegisters (l.first + l.place) (l.count - l.place) l.all.items (registers_from l.first l.count)
