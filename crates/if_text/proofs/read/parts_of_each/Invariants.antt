use Rattle.std.proofs.Common.{◌≡◌, ◌++◌, map, length}
use Rattle.if_text.specs.Parts.{parts_of}
use Rattle.if_text.proofs.read.parts_of_each.Given as goal

abbrev pub invariant-loop-rest : goal.invariant-loop-rest
invariant-loop-rest l = map (λ parts. parts.items) l.words.items ++ map (λ t. parts_of t.word.now) l.rest ≡ map (λ t. parts_of t.word.now) l.fn.tokens

abbrev pub decreases-loop-rest : goal.decreases-loop-rest
decreases-loop-rest l = length l.rest
