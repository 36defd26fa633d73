use Rattle.std.proofs.Common.{◌-◌, length}
use Rattle.flow_cfg.proofs.Nested.{IsWhole}
use Rattle.flow_cfg.proofs.ends.whole_end.Given as goal

abbrev pub invariant-loop-place : goal.invariant-loop-place
invariant-loop-place l = IsWhole l.ends l.head l.end l.place

abbrev pub decreases-loop-place : goal.decreases-loop-place
decreases-loop-place l = length l.ends - l.place
