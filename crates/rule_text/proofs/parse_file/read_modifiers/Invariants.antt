use Rattle.std.proofs.Common.{◌≡◌, ◌++◌, ◌≤◌, ◌-◌, length}
use Rattle.rule_text.specs.Spelling.{modifier_words}
use Rattle.rule_text.specs.Steps.{words_at}
use Rattle.rule_text.proofs.parse_file.read_modifiers.Given as goal

-- these modifiers were read
abbrev pub invariant-loop-modifiers : goal.invariant-loop-modifiers
invariant-loop-modifiers l = (l.initial.at ≤ l.at) × (l.at ≤ length l.tokens) × (words_at l.tokens l.fn.at ≡ modifier_words l.modifiers.items ++ words_at l.tokens l.at)

abbrev pub decreases-loop-modifiers : goal.decreases-loop-modifiers
decreases-loop-modifiers l = length l.tokens - l.at
