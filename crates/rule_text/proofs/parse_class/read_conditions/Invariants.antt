use Rattle.std.proofs.Common.{◌≤◌, ◌-◌, length}
use Rattle.rule_text.specs.Reads.{ReadsEach}
use Rattle.rule_text.specs.Related.{IsConditionOf}
use Rattle.rule_text.specs.Spelling.{is_class_condition, condition_words}
use Rattle.rule_text.proofs.parse_class.read_conditions.Given as goal

-- these conditions were read
abbrev pub invariant-loop-conditions : goal.invariant-loop-conditions
invariant-loop-conditions l = (l.initial.at ≤ l.at) × (l.at ≤ length l.tokens) × ReadsEach IsConditionOf is_class_condition condition_words l.tokens l.fn.at l.at l.conditions.items

abbrev pub decreases-loop-conditions : goal.decreases-loop-conditions
decreases-loop-conditions l = length l.tokens - l.at
