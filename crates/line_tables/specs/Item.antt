-- Debug items: the opcodes, and the lines that an item gives to the positions of a method.
use Rattle.std.specs.Prelude.{ℕ, zero, suc, ◌+◌, ◌-◌, ◌/◌, ◌%◌, ◌^◌, ◌<◌, ◌==◌, ◌||◌, ℤ, pos, negsuc, ◌+ℤ◌, ◌-ℤ◌, List, [], ◌∷◌, ◌++◌, length, drop, replicate, slice_index, Option, Some, None, Result, Ok, Err, nat_lt, nat_le, if◌then◌else◌}
use Rattle.std.specs.Option.{option_map}
use Rattle.dex_base.specs.declared.fault.BaseFault.{BaseFault}
use Rattle.dex_base.specs.declared.fault.BaseFault.TheVariants.{Short}
use Rattle.dex_base.specs.Reading.{◌>>=◌}
use Rattle.dex_base.specs.Leb.{uleb_at, sleb_at}
use Rattle.line_tables.specs.declared.opcode.Effect.{Effect}
use Rattle.line_tables.specs.declared.opcode.Kind.{Kind}
use Rattle.line_tables.specs.declared.opcode.Kind.TheVariants.{Step, Entry, End}
use Rattle.line_tables.specs.declared.read.Spot.{Spot}
use Rattle.line_tables.specs.declared.read.Turn.{Turn}
use Rattle.line_tables.specs.declared.read.Turn.TheVariants.{Breaks, IsOver, GoesTo, EntersAt}

-- the place behind so many numbers
abbrev pub skip_at : List ℕ → ℕ → ℕ → Result ℕ BaseFault
skip_at bytes zero at = Ok at
skip_at bytes (suc n) at = uleb_at bytes at >>= λ r. skip_at bytes n r.1

-- an opcode that adds so much to the address and to the line
abbrev pub effect : ℕ → ℤ → Kind → Effect
effect address line kind = record { address = address; line = line; kind = kind }

abbrev pub effect_to : Effect → ℕ → Effect × ℕ
effect_to e at = (e, at)

-- what the opcode does whose operands begin at this place, and the place behind them
unfoldable pub effect_at : List ℕ → ℕ → ℕ → Result (Effect × ℕ) BaseFault
effect_at bytes code at = if code == 0 then Ok (effect_to (effect 0 (pos 0) End) at)
    else if code == 1 then (uleb_at bytes at >>= λ r. Ok (effect_to (effect r.0 (pos 0) Step) r.1))
    else if code == 2 then (sleb_at bytes at >>= λ r. Ok (effect_to (effect 0 r.0 Step) r.1))
    else if code == 3 then (skip_at bytes 3 at >>= λ behind. Ok (effect_to (effect 0 (pos 0) Step) behind))
    else if code == 4 then (skip_at bytes 4 at >>= λ behind. Ok (effect_to (effect 0 (pos 0) Step) behind))
    else if code == 5 || code == 6 || code == 9 then (skip_at bytes 1 at >>= λ behind. Ok (effect_to (effect 0 (pos 0) Step) behind))
    else if code == 7 || code == 8 then Ok (effect_to (effect 0 (pos 0) Step) at)
    else Ok (effect_to (effect ((code - 10) / 15) (pos ((code - 10) % 15) -ℤ pos 4) Entry) at)

-- what the opcode at this place does, and the place behind it
unfoldable pub opcode_at : List ℕ → ℕ → Result (Effect × ℕ) BaseFault
opcode_at bytes at = if nat_lt at (length bytes) then effect_at bytes (slice_index bytes at) (at + 1) else Err (Short at)

-- the number, where it is from 0 to 2,147,483,647
abbrev pub in_range : ℤ → Option ℕ
in_range (pos n) = if nat_le n 2147483647 then Some n else None
in_range (negsuc n) = None

-- the address and the line behind an opcode, where both stay in that range
unfoldable pub moved_by : ℕ → ℕ → Effect → Option (ℕ × ℕ)
moved_by address line e = if nat_le (address + e.address) 2147483647 then option_map (λ n. (address + e.address, n)) (in_range (pos line +ℤ e.line)) else None

abbrev pub spot : ℕ → ℕ → ℕ → Spot
spot place address line = record { place = place; address = address; line = line }

abbrev pub there : Spot → Option (ℕ × ℕ)
there s = Some (s.address, s.line)

-- by what the opcode makes of the item, the place behind it, and the address and the line there; no entry has line 0
abbrev pub turn_to : Kind → ℕ → Option (ℕ × ℕ) → Turn
turn_to End behind there = IsOver
turn_to Step behind None = Breaks
turn_to Step behind (Some p) = GoesTo (spot behind p.0 p.1)
turn_to Entry behind None = Breaks
turn_to Entry behind (Some p) = if p.1 == 0 then Breaks else EntersAt (spot behind p.0 p.1)

abbrev pub turn_of : Spot → Result (Effect × ℕ) BaseFault → Turn
turn_of s (Err e) = Breaks
turn_of s (Ok r) = turn_to r.0.kind r.1 (moved_by s.address s.line r.0)

-- the turn at this spot
unfoldable pub turn_at : List ℕ → Spot → Turn
turn_at bytes s = turn_of s (opcode_at bytes s.place)

-- reading goes on with an address and a line in range
abbrev pub StaysLow : Turn → Type 0
StaysLow Breaks = Unit {0}
StaysLow IsOver = Unit {0}
StaysLow (GoesTo s) = (s.address < 2 ^ 31) × (s.line < 2 ^ 31)
StaysLow (EntersAt s) = (s.address < 2 ^ 31) × (s.line < 2 ^ 31)

-- how many positions begin before the address, of starts that ascend
abbrev pub count_below : ℕ → List ℕ → ℕ
count_below address [] = 0
count_below address (u ∷ us) = if nat_lt u address then suc (count_below address us) else 0

abbrev pub Lines : Type 0
Lines = Option (List ℕ) × ℕ

abbrev pub read_as : Option (List ℕ) → ℕ → Lines
read_as lines opcodes = (lines, opcodes)

-- lines before those that are still read, and opcodes
abbrev pub ahead : List ℕ → ℕ → Lines → Lines
ahead front opcodes read = (option_map (λ lines. front ++ lines) read.0, opcodes + read.1)

-- whether there is one opcode more
abbrev pub one_more : List ℕ → Spot → ℕ
one_more bytes s = if nat_lt s.place (length bytes) then 1 else 0

-- an entry behind so many positions, which have the line before it; reading ends where those are all
abbrev pub enter : ℕ → ℕ → List ℕ → Spot → (ℕ → List ℕ → Spot → Lines) → Lines
enter n line starts next more = if n == length starts then (Some (replicate n line), 1) else ahead (replicate n line) 1 (more next.line (drop n starts) next)

abbrev pub take_turn : List ℕ → ℕ → List ℕ → Spot → Turn → (ℕ → List ℕ → Spot → Lines) → Lines
take_turn bytes line starts s Breaks more = (None, one_more bytes s)
take_turn bytes line starts s IsOver more = (Some (replicate (length starts) line), 1)
take_turn bytes line starts s (GoesTo next) more = ahead [] 1 (more line starts next)
take_turn bytes line starts s (EntersAt next) more = enter (count_below next.address starts) line starts next more

-- What is read from a spot on, of at most so many opcodes, for the positions that begin at these addresses: those before the next entry
-- have this line. Reading ends at the first entry behind all of them.
abbrev pub walk : ℕ → List ℕ → ℕ → List ℕ → Spot → Lines
walk zero bytes line starts s = (None, one_more bytes s)
walk (suc left) bytes line starts s = take_turn bytes line starts s (turn_at bytes s) (λ next_line next_starts next. walk left bytes next_line next_starts next)

-- the line and the place with which an item begins
unfoldable pub begin_at : List ℕ → ℕ → Result (ℕ × ℕ) BaseFault
begin_at bytes at = uleb_at bytes at >>= λ line. uleb_at bytes line.1 >>= λ names. skip_at bytes names.0 names.1 >>= λ place. Ok (line.0, place)

abbrev pub begun : List ℕ → List ℕ → ℕ → Result (ℕ × ℕ) BaseFault → Lines
begun bytes starts most (Err e) = (None, 0)
begun bytes starts most (Ok r) = if nat_le r.0 2147483647 then walk most bytes 0 starts (spot r.1 0 r.0) else (None, 0)

-- the lines that the item at this place gives to the positions, where at most so many of its opcodes are read, and how many were read
unfoldable pub lines_at : List ℕ → ℕ → List ℕ → ℕ → Lines
lines_at bytes at starts most = begun bytes starts most (begin_at bytes at)
