-- The lines of a debug item by its entries: a position has the line of the last entry at or before its first unit.
use Rattle.std.specs.Prelude.{ℕ, zero, suc, List, [], ◌∷◌, ◌++◌, map, Option, Some, None, Result, Ok, Err, nat_lt, nat_le, if◌then◌else◌}
use Rattle.std.specs.List.{list_all}
use Rattle.std.specs.Option.{option_map}
use Rattle.dex_base.specs.declared.fault.BaseFault.{BaseFault}
use Rattle.line_tables.specs.declared.read.Spot.{Spot}
use Rattle.line_tables.specs.declared.read.Turn.{Turn}
use Rattle.line_tables.specs.declared.read.Turn.TheVariants.{Breaks, IsOver, GoesTo, EntersAt}
use Rattle.line_tables.specs.Item.{spot, turn_at, one_more, begin_at, Lines}

-- entries, each with its address and its line, where the item can be read; and how many opcodes were read
abbrev pub Found : Type 0
Found = Option (List (ℕ × ℕ)) × ℕ

abbrev pub found_as : Option (List (ℕ × ℕ)) → ℕ → Found
found_as entries opcodes = (entries, opcodes)

-- entries before those that are still read, by one opcode
abbrev pub found_before : List (ℕ × ℕ) → Found → Found
found_before front found = (option_map (λ entries. front ++ entries) found.0, suc found.1)

abbrev pub entry : Spot → ℕ × ℕ
entry s = (s.address, s.line)

abbrev pub find_turn : List ℕ → List ℕ → Spot → Turn → (Spot → Found) → Found
find_turn bytes starts s Breaks more = (None, one_more bytes s)
find_turn bytes starts s IsOver more = (Some [], 1)
find_turn bytes starts s (GoesTo next) more = found_before [] (more next)
find_turn bytes starts s (EntersAt next) more = if list_all (λ u. nat_lt u next.address) starts then (Some [], 1) else found_before (entry next ∷ []) (more next)

-- the entries from a spot on, where at most so many opcodes are read; reading ends at the first entry past all starts
abbrev pub entries_from : ℕ → List ℕ → List ℕ → Spot → Found
entries_from zero bytes starts s = (None, one_more bytes s)
entries_from (suc left) bytes starts s = find_turn bytes starts s (turn_at bytes s) (λ next. entries_from left bytes starts next)

-- the line of the last entry at or before an address, or this one
abbrev pub line_of : ℕ → List (ℕ × ℕ) → ℕ → ℕ
line_of before [] u = before
line_of before (e ∷ entries) u = if nat_le e.0 u then line_of e.1 entries u else line_of before entries u

-- each position's line, 0 before the first entry
abbrev pub lines_by : List ℕ → Found → Lines
lines_by starts found = (option_map (λ entries. map (line_of 0 entries) starts) found.0, found.1)

abbrev pub begun_by : List ℕ → List ℕ → ℕ → Result (ℕ × ℕ) BaseFault → Lines
begun_by bytes starts most (Err e) = (None, 0)
begun_by bytes starts most (Ok r) = if nat_le r.0 2147483647 then lines_by starts (entries_from most bytes starts (spot r.1 0 r.0)) else (None, 0)

-- the lines that the item at this place gives to the positions, where at most so many of its opcodes are read, and how many were read
unfoldable pub item_lines : List ℕ → ℕ → List ℕ → ℕ → Lines
item_lines bytes at starts most = begun_by bytes starts most (begin_at bytes at)
