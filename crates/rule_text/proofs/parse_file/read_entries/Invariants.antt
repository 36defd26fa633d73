use Rattle.std.proofs.Common.{◌≤◌, ◌-◌, length}
use Rattle.rule_text.specs.ReadEntries.{ReadsCounted}
use Rattle.rule_text.specs.Places.{Between}
use Rattle.rule_text.specs.Refusals.{EndsWhole}
use Rattle.rule_text.proofs.parse_file.read_entries.Given as goal

-- these rules and options were read, and so many are rules
abbrev pub invariant-loop-at : goal.invariant-loop-at
invariant-loop-at l = (l.initial.at ≤ l.at) × (l.at ≤ length l.tokens) × (l.rules ≤ 4096) × ReadsCounted l.tokens l.fn.at l.at l.entries.items l.rules × EndsWhole Between l.tokens l.fn.at l.at

abbrev pub decreases-loop-at : goal.decreases-loop-at
decreases-loop-at l = length l.tokens - l.at
