-- Descriptors of types, unit by unit.
use Rattle.std.specs.Prelude.{◌≡◌, ℕ, suc, ◌<◌, ◌≤◌, List, [], ◌∷◌, Bool, ◌==◌, ◌&&◌, ◌||◌, nat_lt, nat_le, Option, Some, None, Result, Ok, Err, if◌then◌else◌}
use Rattle.dex_base.specs.declared.fault.BaseFault.{BaseFault}
use Rattle.dex_base.specs.declared.fault.BaseFault.TheVariants.{BadDescriptor}
use Rattle.dex_base.specs.declared.descriptor.Descriptor.{Descriptor}
use Rattle.dex_base.specs.declared.descriptor.Descriptor.TheVariants.{Void, Primitive, Class, Array}
use Rattle.dex_base.specs.declared.descriptor.Spot.{Spot}
use Rattle.dex_base.specs.declared.descriptor.Spot.TheVariants.{Element, Name, Inside, Low, End}

-- one of B C D F I J S Z
abbrev pub is_primitive : ℕ → Bool
is_primitive u = u == 66 || u == 67 || u == 68 || u == 70 || u == 73 || u == 74 || u == 83 || u == 90

-- from this one on, to that one
abbrev pub is_from : ℕ → ℕ → ℕ → Bool
is_from low high u = nat_le low u && nat_le u high

-- a unit that is a character of a name by itself: A to Z, a to z, 0 to 9, $, -, _, and most beyond ASCII
unfoldable pub is_alone : ℕ → Bool
is_alone u = is_from 65 90 u || is_from 97 122 u || is_from 48 57 u || u == 36 || u == 45 || u == 95
    || is_from 161 8191 u || is_from 8208 8231 u || is_from 8240 55295 u || is_from 57344 65519 u

-- the first half and the second of a surrogate pair
abbrev pub is_high : ℕ → Bool
is_high u = is_from 55296 56319 u

abbrev pub is_low : ℕ → Bool
is_low u = is_from 56320 57343 u

-- a type that is no array, behind so many brackets
abbrev pub of_depth : ℕ → Descriptor → Descriptor
of_depth depth kind = if depth == 0 then kind else Array depth

-- where the text is behind one more unit, if that can continue it
abbrev pub behind_bracket : ℕ → ℕ → Option Spot
behind_bracket depth u = if u == 91 && nat_lt depth 255 then Some (Element (suc depth))
    else if u == 76 then Some (Name depth)
    else if is_primitive u then Some (End (of_depth depth (Primitive u)))
    else if u == 86 && depth == 0 then Some (End Void)
    else None

abbrev pub in_name : ℕ → ℕ → Option Spot
in_name depth u = if is_alone u then Some (Inside depth) else if is_high u then Some (Low depth) else None

abbrev pub behind_character : ℕ → ℕ → Option Spot
behind_character depth u = if u == 47 then Some (Name depth) else if u == 59 then Some (End (of_depth depth Class)) else in_name depth u

unfoldable pub next_spot : Spot → ℕ → Option Spot
next_spot (Element depth) u = behind_bracket depth u
next_spot (Name depth) u = in_name depth u
next_spot (Inside depth) u = behind_character depth u
next_spot (Low depth) u = if is_low u then Some (Inside depth) else None
next_spot (End kind) u = None

-- the type, where the text is at its end
abbrev pub ended : ℕ → Spot → Result Descriptor BaseFault
ended place (Element depth) = Err (BadDescriptor place)
ended place (Name depth) = Err (BadDescriptor place)
ended place (Inside depth) = Err (BadDescriptor place)
ended place (Low depth) = Err (BadDescriptor place)
ended place (End kind) = Ok kind

abbrev pub go_on : ℕ → Option Spot → (Spot → Result Descriptor BaseFault) → Result Descriptor BaseFault
go_on place (Some spot) more = more spot
go_on place None more = Err (BadDescriptor place)

-- the type that the text describes from this spot on, whose next unit has this place; the fault names the first unit that can't
-- continue, or the end of the text that comes too early
abbrev pub ends_in : ℕ → Spot → List ℕ → Result Descriptor BaseFault
ends_in place spot [] = ended place spot
ends_in place spot (u ∷ us) = go_on place (next_spot spot u) (λ next. ends_in (suc place) next us)

-- the type that the whole text describes
unfoldable pub descriptor_of : List ℕ → Result Descriptor BaseFault
descriptor_of text = ends_in 0 (Element 0) text
