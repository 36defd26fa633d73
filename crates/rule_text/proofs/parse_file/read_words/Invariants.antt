use Rattle.std.proofs.Common.{◌≤◌, ◌-◌, length}
use Rattle.rule_text.specs.ReadEntries.{AreWordsBehind}
use Rattle.rule_text.proofs.parse_file.read_words.Given as goal

-- these words were read
abbrev pub invariant-loop-word : goal.invariant-loop-word
invariant-loop-word l = (l.initial.at ≤ l.at) × (l.at ≤ length l.tokens) × AreWordsBehind l.tokens l.fn.at l.at l.words.items

abbrev pub decreases-loop-word : goal.decreases-loop-word
decreases-loop-word l = length l.tokens - l.at
