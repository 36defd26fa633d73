use Rattle.std.proofs.Common.{◌≡◌, ◌++◌, map, length}
use Rattle.if_text.specs.Parts.{masked}
use Rattle.if_text.proofs.tokens.masked_tokens.Given as goal

abbrev pub invariant-loop-rest : goal.invariant-loop-rest
invariant-loop-rest l = map (λ t. t.word.now) l.hidden.items ++ map (λ t. masked t.word.now) l.rest ≡ map (λ t. masked t.word.now) l.fn.tokens

abbrev pub decreases-loop-rest : goal.decreases-loop-rest
decreases-loop-rest l = length l.rest
