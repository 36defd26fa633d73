use Rattle.std.proofs.Common.{◌≡◌, length}
use Rattle.rule_text.specs.Pieces.{characters, pieces_of, all_added, merged}
use Rattle.rule_text.proofs.pieces.pieces_of.Given as goal

-- the pieces of the rest behind these are those of the word
abbrev pub invariant-loop-code : goal.invariant-loop-code
invariant-loop-code l = all_added l.pieces.items (pieces_of (characters l.rest)) ≡ merged (pieces_of (characters l.fn.word))

abbrev pub decreases-loop-code : goal.decreases-loop-code
decreases-loop-code l = length l.rest
