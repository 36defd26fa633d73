use Rattle.std.proofs.Common.{◌≡◌, map, drop}
use Rattle.text_defs.specs.Escapes.{with_escapes}
use Rattle.script_text.proofs.escapes.push_escapes.Given as goal

-- what was read, and what the pieces say from here on, is what all the pieces say
abbrev pub invariant-loop-piece : goal.invariant-loop-piece
invariant-loop-piece l = with_escapes l.units.items (map (λ piece. piece.now) (drop l.piece-index l.pieces))
    ≡ with_escapes l.initial.units.items (map (λ piece. piece.now) l.pieces)
