use Rattle.std.proofs.Common.{◌≡◌, ◌≤◌, ◌+◌, ◌++◌, length}
use Rattle.rule_text.specs.Related.{brackets}
use Rattle.rule_text.proofs.parse_member.type_of.Given as goal

-- the rest and so many brackets are the word
abbrev pub invariant-loop-front : goal.invariant-loop-front
invariant-loop-front l = (l.rest ++ brackets l.depth ≡ l.fn.word) × (l.depth + length l.rest ≤ length l.fn.word)

abbrev pub decreases-loop-front : goal.decreases-loop-front
decreases-loop-front l = length l.rest
