-- Positions, which number the instructions of a body, and the units where they begin.
use Rattle.std.specs.Prelude.{◌≡◌, ℕ, suc, ◌<◌, ◌==◌, ◌+◌, ◌%◌, ◌&&◌, ℤ, pos, negsuc, ◌+ℤ◌, Bool, true, false, List, [], ◌∷◌, length, slice_get, slice_index, unwrap_or, position, Option, Some, None, nat_lt, nat_le, if◌then◌else◌}
use Rattle.std.specs.List.{list_any}

-- numbers that ascend, from the first of these on and below the second
abbrev pub rises_in : ℕ → ℕ → List ℕ → Bool
rises_in low high [] = true
rises_in low high (x ∷ xs) = nat_le low x && (nat_lt x high && rises_in (suc x) high xs)

-- how many of the starts, which ascend, lie before a unit
abbrev pub count_below : ℕ → List ℕ → ℕ
count_below unit [] = 0
count_below unit (s ∷ ss) = if nat_lt s unit then suc (count_below unit ss) else 0

-- a table of these numbers, for each unit and the end
pub record IsCounted (starts before : List ℕ) : Type 0 where
  pub is : (unit : ℕ) → unit < length before → slice_index before unit ≡ count_below unit starts

-- the position that begins with the unit, none where none does
abbrev pub position_of : List ℕ → ℕ → Option ℕ
position_of starts unit = position (λ s. s == unit) starts

-- the unit so far from another, none before the first
abbrev pub no_less : ℤ → Option ℕ
no_less (pos n) = Some n
no_less (negsuc n) = None

abbrev pub unit_from : ℕ → ℤ → Option ℕ
unit_from start offset = no_less (pos start +ℤ offset)

-- what is given for the target of a branch that goes to no position: no body has so many
abbrev pub nowhere : ℕ
nowhere = 4294967295

abbrev pub position_at : List ℕ → Option ℕ → Option ℕ
position_at starts None = None
position_at starts (Some unit) = position_of starts unit

-- the position to which an offset leads from a unit, or nowhere
abbrev pub target_from : List ℕ → ℕ → ℤ → ℕ
target_from starts start offset = unwrap_or (position_at starts (unit_from start offset)) nowhere

-- the unit of a payload, if one begins there and the unit is even
abbrev pub payload_at : List ℕ → Option ℕ → Option ℕ
payload_at payloads None = None
payload_at payloads (Some unit) = if unit % 2 == 0 && list_any (λ u. u == unit) payloads then Some unit else None

-- whether a position begins with the unit
abbrev pub begins_with : Option ℕ → ℕ → Bool
begins_with None unit = false
begins_with (Some start) unit = start == unit
