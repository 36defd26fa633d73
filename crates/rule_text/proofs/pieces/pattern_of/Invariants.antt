use Rattle.std.proofs.Common.{◌≡◌, ◌++◌, map, length}
use Rattle.rule_text.specs.declared.pattern.Piece.TheVariants as piece
use Rattle.rule_text.specs.Pieces.{characters, pieces_of, merged}
use Rattle.rule_text.proofs.pieces.pattern_of.Given as goal

-- the units and the rest are the pieces of the word
abbrev pub invariant-loop-rest : goal.invariant-loop-rest
invariant-loop-rest l = map (λ u. piece.Exactly u) l.head.items ++ l.rest ≡ merged (pieces_of (characters l.fn.word))

abbrev pub decreases-loop-rest : goal.decreases-loop-rest
decreases-loop-rest l = length l.rest
