-- The units of a method, swept into instructions and payloads (Dalvik bytecode, "Design", "packed-switch-payload" and the
-- other payloads).
use Rattle.std.specs.Prelude.{ℕ, zero, suc, ◌-◌, ◌/◌, ◌%◌, List, [], ◌∷◌, length, take, map, slice_index, Bool, true, not, ◌&&◌, ◌||◌, ◌==◌, nat_le, nat_lt, Option, Some, None, Result, Ok, Err, if◌then◌else◌}
use Rattle.std.specs.Option.{option_map}
use Rattle.dex_base.specs.Reading.{◌>>=◌}
use Rattle.insn_set.specs.Formats.{format_units}
use Rattle.code_read.specs.declared.fault.CodeFault.{CodeFault}
use Rattle.code_read.specs.declared.fault.CodeFault.TheVariants.{Opcode, Cut}
use Rattle.code_read.specs.Opcodes.{format_at}
use Rattle.code_read.specs.Payloads.{payload_size}

-- an instruction or a payload: the number of its first unit, and its units
pub record Piece : Type 0 where
  pub start : ℕ
  pub text : List ℕ

-- which payload a unit begins, 0 for none: a nop whose high byte is 1, 2 or 3 is a payload wherever it stands
abbrev pub payload_kind : ℕ → ℕ
payload_kind unit = if unit % 256 == 0 && nat_le (unit / 256) 3 then unit / 256 else 0

-- how many units the piece at the front has, none where it has no opcode of an instruction, or is a payload without its size
abbrev pub piece_size : List ℕ → Option ℕ
piece_size [] = None
piece_size (u ∷ us) = if payload_kind u == 0 then option_map format_units (format_at (u % 256)) else payload_size (payload_kind u) (u ∷ us)

-- the fault where the size is not known: a payload is cut off, and anything else has no opcode of an instruction
abbrev pub no_size : ℕ → ℕ → CodeFault
no_size at unit = if payload_kind unit == 0 then Opcode at else Cut at

-- a size, where so many units are there
abbrev pub whole : ℕ → ℕ → ℕ → Option ℕ → Result ℕ CodeFault
whole at unit here None = Err (no_size at unit)
whole at unit here (Some size) = if nat_lt 0 size && nat_le size here then Ok size else Err (Cut at)

-- how many units the piece at the front has, all of which are there; this is the number of its first unit
abbrev pub size_in : ℕ → List ℕ → Result ℕ CodeFault
size_in at units = whole at (slice_index units 0) (length units) (piece_size units)

abbrev pub piece : ℕ → List ℕ → ℕ → Piece
piece at units size = record { start = at; text = take size units }

-- the pieces of the units, the first of which has this number; so many units of a piece before are still to come
abbrev pub pieces_from : ℕ → ℕ → List ℕ → Result (List Piece) CodeFault
pieces_from at left [] = Ok []
pieces_from at (suc left) (u ∷ us) = pieces_from (suc at) left us
pieces_from at zero (u ∷ us) = size_in at (u ∷ us) >>= λ size. pieces_from (suc at) (size - 1) us >>= λ ps. Ok (piece at (u ∷ us) size ∷ ps)

abbrev pub pieces_of : List ℕ → Result (List Piece) CodeFault
pieces_of units = pieces_from 0 0 units

-- ---- instructions and payloads

abbrev pub first_unit : Piece → ℕ
first_unit p = slice_index p.text 0

abbrev pub is_payload : Piece → Bool
is_payload p = not (payload_kind (first_unit p) == 0)

abbrev pub is_nop : Piece → Bool
is_nop p = first_unit p % 256 == 0 && payload_kind (first_unit p) == 0

-- nops alone stand before the next payload or the end
abbrev pub only_fills : List Piece → Bool
only_fills [] = true
only_fills (p ∷ ps) = is_payload p || (is_nop p && only_fills ps)

-- the instructions: no payload is one, and no nop of a run directly before a payload or the end
abbrev pub instructions : List Piece → List Piece
instructions [] = []
instructions (p ∷ ps) = if only_fills (p ∷ ps) then instructions ps else p ∷ instructions ps

abbrev pub payloads : List Piece → List Piece
payloads [] = []
payloads (p ∷ ps) = if is_payload p then p ∷ payloads ps else payloads ps

abbrev pub starts_of : List Piece → List ℕ
starts_of pieces = map (λ p. p.start) pieces

-- the units of a method, and where its instructions, by their positions, and its payloads begin
pub record Places : Type 0 where
  pub units : List ℕ
  pub starts : List ℕ
  pub payloads : List ℕ

abbrev pub places : List ℕ → List ℕ → List ℕ → Places
places units starts payloads = record { units = units; starts = starts; payloads = payloads }

abbrev pub places_of : List ℕ → List Piece → Places
places_of units pieces = places units (starts_of (instructions pieces)) (starts_of (payloads pieces))

-- where the instructions and the payloads of the units begin
unfoldable pub sweep_of : List ℕ → Result Places CodeFault
sweep_of units = pieces_of units >>= λ pieces. Ok (places_of units pieces)
