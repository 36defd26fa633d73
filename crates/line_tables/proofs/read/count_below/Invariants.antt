use Rattle.std.proofs.Common.{◌≡◌, ◌+◌, ◌-◌, ◌≤◌, length, drop}
use Rattle.line_tables.specs.Item.{count_below}
use Rattle.line_tables.proofs.read.count_below.Given as goal

abbrev pub invariant-loop-count : goal.invariant-loop-count
invariant-loop-count l = record { within : l.count ≤ length l.starts; gives : l.count + count_below l.address (drop l.count l.starts) ≡ count_below l.address l.starts }

abbrev pub decreases-loop-count : goal.decreases-loop-count
decreases-loop-count l = length l.starts - l.count
