-- The lines of a method (Dalvik executable format, "debug_info_item").
use Rattle.std.specs.Prelude.{ℕ, zero, suc, List, [], length, Option, Some, None, nat_eq, if◌then◌else◌}
use Rattle.std.specs.List.{list_all}
use Rattle.line_tables.specs.Entries.{item_lines}

-- no lines at all, where no position has one
abbrev pub cleared : List ℕ → List ℕ
cleared lines = if list_all (λ line. nat_eq line 0) lines then [] else lines

abbrev pub lines_or_none : Option (List ℕ) → List ℕ
lines_or_none None = []
lines_or_none (Some lines) = cleared lines

-- What the item at this offset says of positions that begin at these units; the offset 0, and an item that can't be read, say nothing.
-- An opcode has a byte at least, so no item has more opcodes than the file has bytes.
abbrev pub lines_of : List ℕ → ℕ → List ℕ → List ℕ
lines_of bytes zero starts = []
lines_of bytes (suc k) starts = lines_or_none (item_lines bytes (suc k) starts (length bytes)).0
