use Rattle.std.proofs.Common.{◌≡◌, length}
use Rattle.std.specs.List.{list_any}
use Rattle.rule_text.specs.Spelling.{word_eq}
use Rattle.if_text.specs.Items.{if_word}
use Rattle.if_text.proofs.tokens.has_if.Given as goal

abbrev pub invariant-loop-rest : goal.invariant-loop-rest
invariant-loop-rest l = list_any (λ t. word_eq t.word.now if_word) l.rest ≡ list_any (λ t. word_eq t.word.now if_word) l.fn.tokens

abbrev pub decreases-loop-rest : goal.decreases-loop-rest
decreases-loop-rest l = length l.rest
