-- Values and annotations, as they are read.
use Rattle.std.specs.Prelude.{ℕ, zero, suc, ◌+◌, ◌-◌, ◌/◌, ◌%◌, ℤ, List, ◌++◌, length, take, drop, replicate, slice_index, Bool, false, Result, Ok, Err, Option, Some, None, nat_lt, nat_le, ◌==◌, ◌&&◌, ◌||◌, if◌then◌else◌}
use Rattle.std.specs.Int.{Width, w16, w32, w64, byte_len, from_le_bytes}
use Rattle.byteorder.specs.Endian.{little_number, twos_complement}
use Rattle.dex_base.specs.Reading.{◌>>=◌}
use Rattle.program_model.specs.declared.limits.Counted.TheVariants.{Items}
use Rattle.program_model.specs.declared.value.EncValue.{EncValue}
use Rattle.program_model.specs.declared.value.EncValue.TheVariants as value
use Rattle.program_model.specs.declared.value.Note.{Note, roll-Note}
use Rattle.program_model.specs.declared.value.Element.{Element}
use Rattle.dex_pools.specs.declared.fault.PoolFault.{PoolFault}
use Rattle.dex_pools.specs.declared.fault.PoolFault.TheVariants.{Short, Index, BadValue, Deep}
use Rattle.dex_pools.specs.declared.fault.Table.TheVariants.{Members}
use Rattle.dex_pools.specs.declared.scalar.TableSizes.{TableSizes}
use Rattle.dex_pools.specs.Items.{spend}
use Rattle.dex_pools.specs.Order.{ascends_in}
use Rattle.dex_pools.specs.Run.{run}
use Rattle.dex_pools.specs.Word.{number_at}

-- the byte at this place
unfoldable pub byte_at : List ℕ → ℕ → Result ℕ PoolFault
byte_at bytes at = if nat_lt at (length bytes) then Ok (slice_index bytes at) else Err (Short at)

-- so many bytes behind the one at this place
unfoldable pub few_at : List ℕ → ℕ → ℕ → Result (List ℕ) PoolFault
few_at bytes at count = if nat_le (at + 1 + count) (length bytes) then Ok (take count (drop (at + 1) bytes)) else Err (Short at)

-- a number in LEB128 below the size of a table, and the place behind it
unfoldable pub number_index_at : List ℕ → ℕ → ℕ → Result (ℕ × ℕ) PoolFault
number_index_at bytes at size = number_at bytes at >>= λ n. if nat_lt n.0 size then Ok n else Err (Index at n.0 size)

-- ---- values without values in them

-- the greatest argument of a type of values
abbrev pub most_argument : ℕ → Option ℕ
most_argument kind = if kind == 0 || kind == 28 || kind == 29 || kind == 30 then Some 0
    else if kind == 2 || kind == 3 || kind == 31 then Some 1
    else if kind == 4 || kind == 16 || (nat_le 23 kind && nat_le kind 27) then Some 3
    else if kind == 6 || kind == 17 then Some 7
    else None

abbrev pub is_within : ℕ → Option ℕ → Bool
is_within argument (Some most) = nat_le argument most
is_within argument None = false

-- the number in a few bytes, the lowest first, in two's complement
unfoldable pub sign_extended : List ℕ → ℤ
sign_extended few = twos_complement (length few) (little_number (length few) few)

-- the number with zeros behind the bytes, and in front of them
abbrev pub zero_extended : Width → List ℕ → ℕ
zero_extended w few = from_le_bytes w few

unfoldable pub right_extended : Width → List ℕ → ℕ
right_extended w few = from_le_bytes w (replicate (byte_len w - length few) 0 ++ few)

-- how many bytes a number of this type may have
abbrev pub widest : ℕ → ℕ
widest kind = if kind == 0 then 1 else if kind == 2 || kind == 3 then 2 else if kind == 4 || kind == 16 then 4 else 8

-- a number, a character or a float
abbrev pub numeric : ℕ → List ℕ → EncValue
numeric kind few = if kind == 0 then value.Byte (sign_extended few)
    else if kind == 2 then value.Short (sign_extended few)
    else if kind == 3 then value.Char (zero_extended w16 few)
    else if kind == 4 then value.Int (sign_extended few)
    else if kind == 6 then value.Long (sign_extended few)
    else if kind == 16 then value.Float (right_extended w32 few)
    else value.Double (right_extended w64 few)

-- the size of the table that a value of this type names an entry of, and the value
abbrev pub size_for : TableSizes → ℕ → ℕ
size_for sizes kind = if kind == 23 then sizes.strings
    else if kind == 24 then sizes.types
    else if kind == 26 then sizes.methods
    else sizes.fields

abbrev pub naming : ℕ → ℕ → EncValue
naming kind n = if kind == 23 then value.Str n
    else if kind == 24 then value.Class n
    else if kind == 25 then value.Field n
    else if kind == 26 then value.Method n
    else value.Enum n

abbrev pub named_at : TableSizes → ℕ → ℕ → ℕ → Result EncValue PoolFault
named_at sizes at kind n = if nat_lt n (size_for sizes kind) then Ok (naming kind n) else Err (Index at n (size_for sizes kind))

-- the value of this type at this place in so many bytes
unfoldable pub scalar_at : List ℕ → TableSizes → ℕ → ℕ → ℕ → Result EncValue PoolFault
scalar_at bytes sizes at kind count = few_at bytes at count >>= λ few. if nat_lt kind 23 then Ok (numeric kind few) else named_at sizes at kind (zero_extended w32 few)

-- ---- values in values: inner reads a value that lies one deeper, at a place and with what is left of the items

-- an entry of a list, which is counted
abbrev pub counted : (ℕ × ℕ → Result (EncValue × (ℕ × ℕ)) PoolFault) → ℕ → ℕ × ℕ → Result (EncValue × (ℕ × ℕ)) PoolFault
counted inner i s = spend Items 1 s.1 >>= λ behind. inner (s.0, behind)

-- the values of an array
unfoldable pub array_in : (ℕ × ℕ → Result (EncValue × (ℕ × ℕ)) PoolFault) → List ℕ → ℕ × ℕ → Result (List EncValue × (ℕ × ℕ)) PoolFault
array_in inner bytes s = number_at bytes s.0 >>= λ count. run (counted inner) 0 count.0 (count.1, s.1)

-- an element of an annotation
unfoldable pub element_in : (ℕ × ℕ → Result (EncValue × (ℕ × ℕ)) PoolFault) → List ℕ → TableSizes → ℕ → ℕ × ℕ → Result (Element × (ℕ × ℕ)) PoolFault
element_in inner bytes sizes i s = do
  behind ← spend Items 1 s.1
  name ← number_index_at bytes s.0 sizes.strings
  v ← inner (name.1, behind)
  Ok (record { name = name.0; value = v.0 }, v.1)

-- elements stand in the order of their names
abbrev pub element_below : Element → Element → Bool
element_below a b = nat_lt a.name b.name

-- an annotation without its visibility
unfoldable pub note_in : (ℕ × ℕ → Result (EncValue × (ℕ × ℕ)) PoolFault) → List ℕ → TableSizes → ℕ × ℕ → Result (Note × (ℕ × ℕ)) PoolFault
note_in inner bytes sizes s = do
  class ← number_index_at bytes s.0 sizes.types
  count ← number_at bytes class.1
  elements ← run (element_in inner bytes sizes) 0 count.0 (count.1, s.1)
  order ← ascends_in element_below Members elements.0
  Ok (roll-Note (record { class = class.0; elements = elements.0 }), elements.1)

-- the value of this type and argument, whose first byte stands at this place
abbrev pub of_kind : (ℕ × ℕ → Result (EncValue × (ℕ × ℕ)) PoolFault) → List ℕ → TableSizes → ℕ × ℕ → ℕ → ℕ → Result (EncValue × (ℕ × ℕ)) PoolFault
of_kind inner bytes sizes s kind argument =
    if kind == 28 then (array_in inner bytes (s.0 + 1, s.1) >>= λ r. Ok (value.Array r.0, r.1))
    else if kind == 29 then (note_in inner bytes sizes (s.0 + 1, s.1) >>= λ r. Ok (value.Annotation r.0, r.1))
    else if kind == 30 then Ok (value.Null, (s.0 + 1, s.1))
    else if kind == 31 then Ok (value.Bool (argument == 1), (s.0 + 1, s.1))
    else (scalar_at bytes sizes s.0 kind (argument + 1) >>= λ v. Ok (v, (s.0 + 1 + (argument + 1), s.1)))

unfoldable pub value_in : (ℕ × ℕ → Result (EncValue × (ℕ × ℕ)) PoolFault) → List ℕ → TableSizes → ℕ × ℕ → Result (EncValue × (ℕ × ℕ)) PoolFault
value_in inner bytes sizes s = byte_at bytes s.0 >>= λ tag.
    if is_within (tag / 32) (most_argument (tag % 32)) then of_kind inner bytes sizes s (tag % 32) (tag / 32) else Err (BadValue s.0)

-- the value at this place, in which values may lie so deep, itself counted; the place behind it and what it leaves of the items
abbrev pub value_at : ℕ → List ℕ → TableSizes → ℕ × ℕ → Result (EncValue × (ℕ × ℕ)) PoolFault
value_at zero bytes sizes s = Err (Deep s.0)
value_at (suc depth) bytes sizes s = value_in (value_at depth bytes sizes) bytes sizes s

-- a value, and an annotation without its visibility, in which values nest 64 deep at most
unfoldable pub whole_value_at : List ℕ → TableSizes → ℕ × ℕ → Result (EncValue × (ℕ × ℕ)) PoolFault
whole_value_at bytes sizes s = value_at 64 bytes sizes s

unfoldable pub whole_note_at : List ℕ → TableSizes → ℕ × ℕ → Result (Note × (ℕ × ℕ)) PoolFault
whole_note_at bytes sizes s = note_in (value_at 64 bytes sizes) bytes sizes s
