-- The debug item that is written for the lines of a method.
use Rattle.std.specs.Prelude.{◌≡◌, ℕ, suc, ◌+◌, ◌-◌, ◌*◌, ◌<◌, ◌≤◌, ◌^◌, ◌==◌, ◌&&◌, pos, ◌-ℤ◌, Bool, List, [], ◌∷◌, ◌++◌, replicate, nat_le, if◌then◌else◌}
use Rattle.dex_base.specs.Leb.{uleb_text, sleb_text}

-- strictly ascending from the first number on, and none above 2,147,483,647
abbrev pub AscendsFrom : ℕ → List ℕ → Type 0
AscendsFrom low [] = Unit {0}
AscendsFrom low (u ∷ us) = (low ≤ u) × (u < 2 ^ 31) × AscendsFrom (suc u) us

-- the first line other than 0
abbrev pub first_line : List ℕ → ℕ
first_line [] = 0
first_line (x ∷ xs) = if x == 0 then first_line xs else x

-- the step from a line to another is from - 4 to 10
abbrev pub is_near : ℕ → ℕ → Bool
is_near line next = nat_le line (next + 4) && nat_le next (line + 10)

-- what comes first of a step of the line that is too large for an entry's opcode
abbrev pub line_text : ℕ → ℕ → List ℕ
line_text line next = if is_near line next then [] else 2 ∷ sleb_text (pos next -ℤ pos line)

-- the step of the line that an entry's opcode has, from 0 to 14
abbrev pub digit : ℕ → ℕ → ℕ
digit line next = if is_near line next then next + 4 - line else 4

-- the opcode of an entry, behind a step of the address that is too large for it
abbrev pub opcode_text : ℕ → ℕ → List ℕ
opcode_text step low = if nat_le (10 + low + 15 * step) 255 then (10 + low + 15 * step) ∷ [] else 1 ∷ uleb_text step ++ (10 + low) ∷ []

-- an entry at an address with a line, behind another
unfoldable pub entry_text : ℕ → ℕ → ℕ → ℕ → List ℕ
entry_text address line at next = line_text line next ++ opcode_text (at - address) (digit line next)

-- one entry for each position whose line isn't the one before it
abbrev pub entries_text : ℕ → ℕ → ℕ → List ℕ → List ℕ → List ℕ
entries_text address line shown [] lines = []
entries_text address line shown (u ∷ us) [] = []
entries_text address line shown (u ∷ us) (x ∷ xs) = if x == shown then entries_text address line shown us xs else entry_text address line u x ++ entries_text u x x us xs

-- the item: the first line, the number of parameters and no name for each, the entries, and the end
unfoldable pub item_text : List ℕ → List ℕ → ℕ → List ℕ
item_text lines starts parameters = uleb_text (first_line lines) ++ uleb_text parameters ++ replicate parameters 0 ++ entries_text 0 (first_line lines) 0 starts lines ++ 0 ∷ []

-- no 0 stands behind a line, nor behind this one
abbrev pub Lined : ℕ → List ℕ → Type 0
Lined shown [] = Unit {0}
Lined shown (x ∷ xs) = (x ≡ 0 → shown ≡ 0) × Lined x xs
