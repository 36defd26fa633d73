use Rattle.std.proofs.Common.{◌≤◌, ◌-◌, length}
use Rattle.if_text.specs.Steps.{ReadsCounted}
use Rattle.if_text.proofs.read.read_items.Given as goal

-- these rules and options were read, and so many are rules
abbrev pub invariant-loop-at : goal.invariant-loop-at
invariant-loop-at l = (l.at ≤ length l.tokens) × (l.count ≤ 4096) × ReadsCounted l.tokens l.hidden l.at l.rules l.count

abbrev pub decreases-loop-at : goal.decreases-loop-at
decreases-loop-at l = length l.tokens - l.at
