-- The first values of static fields, as they are read (Dalvik executable format, "encoded_array").
use Rattle.std.specs.Prelude.{ℕ, pos, List, length, Bool, true, false, not, ◌==◌, ◌&&◌, nat_eq, nat_lt, Option, Some, None, Result, Ok, Err, slice_get, if◌then◌else◌}
use Rattle.std.specs.Ordering.{int_eq}
use Rattle.dex_base.specs.Reading.{◌>>=◌, raise}
use Rattle.program_model.specs.Texts.{is_reference}
use Rattle.program_model.specs.MemberRules.{field_letter}
use Rattle.program_model.specs.declared.limits.Counted.TheVariants.{Items}
use Rattle.program_model.specs.declared.value.EncValue.{EncValue, EncValue-F, out-EncValue}
use Rattle.program_model.specs.declared.value.EncValue.TheOpen as value
use Rattle.program_model.specs.declared.value.Element.{Element}
use Rattle.program_model.specs.declared.value.Note.{Note}
use Rattle.program_model.specs.declared.program.Field.{Field}
use Rattle.program_model.specs.declared.program.Program.{Program}
use Rattle.dex_pools.specs.declared.fault.PoolFault.TheVariants.{BadValue}
use Rattle.dex_pools.specs.Items.{spend}
use Rattle.dex_pools.specs.Value.{whole_value_at}
use Rattle.dex_read.specs.declared.fault.DexFault.{DexFault}
use Rattle.dex_read.specs.declared.fault.DexFault.TheVariants.{Pool}
use Rattle.dex_read.specs.Faults.{of_pool}
use Rattle.dex_read.specs.Steps.{steps, change_at}
use Rattle.dex_read.specs.Tables.{sizes_in}
use Rattle.dex_read.specs.Word.{number_at}

-- a value that a field may begin with whose type has this letter: its own kind for a primitive, a string, a type or null for a reference
abbrev pub layer_is_of : ℕ → EncValue-F EncValue Element Note → Bool
layer_is_of letter (value.Byte n) = letter == 66
layer_is_of letter (value.Short n) = letter == 83
layer_is_of letter (value.Char n) = letter == 67
layer_is_of letter (value.Int n) = letter == 73
layer_is_of letter (value.Long n) = letter == 74
layer_is_of letter (value.Float bits) = letter == 70
layer_is_of letter (value.Double bits) = letter == 68
layer_is_of letter (value.Bool b) = letter == 90
layer_is_of letter (value.Str n) = is_reference letter
layer_is_of letter (value.Class n) = is_reference letter
layer_is_of letter value.Null = is_reference letter
layer_is_of letter v = false

abbrev pub is_of : ℕ → EncValue → Bool
is_of letter v = layer_is_of letter (out-EncValue v)

-- zero, false or null, which a field without a first value holds
abbrev pub layer_is_zero : EncValue-F EncValue Element Note → Bool
layer_is_zero (value.Byte n) = int_eq n (pos 0)
layer_is_zero (value.Short n) = int_eq n (pos 0)
layer_is_zero (value.Char n) = nat_eq n 0
layer_is_zero (value.Int n) = int_eq n (pos 0)
layer_is_zero (value.Long n) = int_eq n (pos 0)
layer_is_zero (value.Float bits) = nat_eq bits 0
layer_is_zero (value.Double bits) = nat_eq bits 0
layer_is_zero (value.Bool b) = not b
layer_is_zero value.Null = true
layer_is_zero v = false

abbrev pub first_of : EncValue → Option EncValue
first_of v = if layer_is_zero (out-EncValue v) then None else Some v

abbrev pub with_first : EncValue → Field → Field
with_first v f = record f { first = first_of v }

-- the field may begin with the value, if there is one
abbrev pub takes : Program → EncValue → Option Field → Bool
takes p v None = false
takes p v (Some f) = is_of (field_letter p (slice_get p.fields f.name)) v

-- One value, that of the static field at its place. What is handed on: the fields as they are by then, the place behind the value, and what
-- is left of the items.
unfoldable pub give_first : List ℕ → Program → ℕ → ℕ → List Field × (ℕ × ℕ) → Result (List Field × (ℕ × ℕ)) DexFault
give_first bytes p statics i s = raise of_pool (whole_value_at bytes (sizes_in p) s.1) >>= λ v.
    if nat_lt i statics && takes p v.0 (slice_get s.0 i) then Ok (change_at (with_first v.0) i s.0, v.1) else Err (Pool (BadValue s.1.0))

-- the fields, the first of which are static, with the values at this place, and what is left of the items
unfoldable pub firsts_at : List ℕ → Program → ℕ → ℕ → List Field → ℕ → Result (List Field × ℕ) DexFault
firsts_at bytes p at statics fields left = do
  count ← number_at bytes at
  behind ← raise of_pool (spend Items count.0 left)
  given ← steps (give_first bytes p statics) 0 count.0 (fields, (count.1, behind))
  Ok (given.0, given.1.1)
