use Rattle.std.proofs.Common.{◌≤◌, ◌-◌, length}
use Rattle.rule_text.specs.Reads.{Reads}
use Rattle.rule_text.specs.Related.{AreEach, IsPatternOf}
use Rattle.rule_text.specs.Spelling.{are_names, separated}
use Rattle.rule_text.proofs.parse_class.read_names.Given as goal

-- these names were read
abbrev pub invariant-loop-alloc : goal.invariant-loop-alloc
invariant-loop-alloc l = (l.initial.at ≤ l.at) × (l.at ≤ length l.tokens) × Reads (AreEach IsPatternOf) are_names separated l.tokens l.fn.at l.at l.names.items

abbrev pub decreases-loop-alloc : goal.decreases-loop-alloc
decreases-loop-alloc l = length l.tokens - l.at
