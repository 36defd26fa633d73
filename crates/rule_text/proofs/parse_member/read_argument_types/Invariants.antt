use Rattle.std.proofs.Common.{◌≤◌, ◌-◌, length}
use Rattle.rule_text.specs.Reads.{Reads}
use Rattle.rule_text.specs.Related.{AreEach, IsTypeOf}
use Rattle.rule_text.specs.Spelling.{are_some, is_argument, separated}
use Rattle.rule_text.proofs.parse_member.read_argument_types.Given as goal

-- these types were read
abbrev pub invariant-loop-alloc : goal.invariant-loop-alloc
invariant-loop-alloc l = (l.initial.at ≤ l.at) × (l.at ≤ length l.tokens) × Reads (AreEach IsTypeOf) (are_some is_argument) separated l.tokens l.fn.at l.at l.types.items

abbrev pub decreases-loop-alloc : goal.decreases-loop-alloc
decreases-loop-alloc l = length l.tokens - l.at
