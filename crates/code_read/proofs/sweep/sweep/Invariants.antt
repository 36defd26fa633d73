use Rattle.std.proofs.Common.{◌-◌, length}
use Rattle.code_read.specs.Found.{found}
use Rattle.code_read.proofs.Sweeping.{Sweeps}
use Rattle.code_read.proofs.sweep.sweep.Given as goal

abbrev pub invariant-loop-at : goal.invariant-loop-at
invariant-loop-at l = Sweeps l.units l.at (found l.swept.starts.items l.swept.kept l.swept.payloads.items)

abbrev pub decreases-loop-at : goal.decreases-loop-at
decreases-loop-at l = length l.initial.units - l.at
