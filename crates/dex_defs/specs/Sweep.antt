-- The units of a method, swept into instructions and payloads (Dalvik bytecode, "Design", "packed-switch-payload" and the
-- other payloads). What a piece is, and which pieces are instructions, code_read's definitions say.
use Rattle.std.specs.Prelude.{◌≡◌, ◌+◌, ◌≤◌, ℕ, List, [], ◌∷◌, length, take, drop, Some}
pub use Rattle.code_read.specs.Sweep.{Piece, payload_kind, piece_size, first_unit, is_payload, is_nop, only_fills, instructions, payloads, starts_of, Places, places_of}

pub record IsPiece (units : List ℕ) (at : ℕ) (p : Piece) : Type 0 where
  pub start : p.start ≡ at
  pub size : piece_size (drop at units) ≡ Some (length p.text)
  pub inside : at + length p.text ≤ length units
  pub text : p.text ≡ take (length p.text) (drop at units)

-- pieces one behind another
abbrev pub PiecesTo : List ℕ → ℕ → List Piece → ℕ → Type 0
PiecesTo units at [] stop = stop ≡ at
PiecesTo units at (p ∷ ps) stop = IsPiece units at p × PiecesTo units (at + length p.text) ps stop

-- all units are swept
abbrev pub IsSwept : List ℕ → List Piece → Type 0
IsSwept units pieces = PiecesTo units 0 pieces (length units)
