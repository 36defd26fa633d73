use Rattle.std.proofs.Common.{◌≡◌, ◌≤◌, ◌+◌, ◌++◌, suc, false, [], map, length}
use Rattle.rule_text.specs.Tokens.{tokens_from, tokens_of}
use Rattle.rule_text.specs.Fronts.{token_view, line_ends}
use Rattle.rule_text.proofs.lexer.tokens_of.Given as goal

-- what was read, and what the rest says from this line on, is what the text says
abbrev pub invariant-loop-behind : goal.invariant-loop-behind
invariant-loop-behind l = (l.ends + length l.rest ≤ length l.fn.text)
    × (map token_view l.items.items ++ tokens_from (suc l.ends) false [] l.rest ≡ tokens_of l.fn.text)
    × (l.ends + line_ends l.rest ≡ line_ends l.fn.text)

abbrev pub decreases-loop-behind : goal.decreases-loop-behind
decreases-loop-behind l = length l.rest
