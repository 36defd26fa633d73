-- The members that class data lists, as they are read (Dalvik executable format, "class_data_item").
use Rattle.std.specs.Prelude.{ℕ, suc, ◌+◌, List, [], ◌∷◌, length, min, Bool, true, false, not, nat_eq, nat_lt, ◌&&◌, ◌||◌, ◌==◌, Option, Some, None, is_none, option_map, slice_get, Result, Ok, Err, if◌then◌else◌}
use Rattle.dex_base.specs.Reading.{◌>>=◌}
use Rattle.program_model.specs.Texts.{first_unit}
use Rattle.program_model.specs.MemberRules.{is_static, is_private, lacks_code, class_of_field, class_of_method, is_class_number, name_of_method}
use Rattle.program_model.specs.declared.flags.Flags.{Flags}
use Rattle.program_model.specs.declared.program.Program.{Program}
use Rattle.dex_pools.specs.declared.fault.PoolFault.TheVariants.{Index, Order}
use Rattle.dex_pools.specs.declared.fault.Table.TheVariants as table
use Rattle.dex_pools.specs.Run.{run}
use Rattle.dex_read.specs.declared.fault.DexFault.{DexFault}
use Rattle.dex_read.specs.declared.fault.DexFault.TheVariants.{Pool, Member}
use Rattle.dex_read.specs.declared.class_data.Listed.{Listed}
use Rattle.dex_read.specs.declared.class_data.Members.{Members}
use Rattle.dex_read.specs.declared.members.Owner.{Owner}
use Rattle.dex_read.specs.Word.{number_at}
use Rattle.dex_read.specs.Tables.{sizes_in}

-- ---- one entry: its step is read at a place, and counts from the number before it

-- the number whose step stands there, below the size of its table; and the place behind it
unfoldable pub stepped_at : List ℕ → ℕ → ℕ → ℕ → Result (ℕ × ℕ) DexFault
stepped_at bytes size before at = number_at bytes at >>= λ step.
    if nat_lt (before + step.0) size then Ok (before + step.0, step.1) else Err (Pool (Index at (min (before + step.0) 4294967295) size))

-- the entry at this place of a list is above the one before it
unfoldable pub ascends_at : ℕ → ℕ → ℕ → Result (Unit {0}) DexFault
ascends_at place before number = if nat_eq place 0 || nat_lt before number then Ok tt else Err (Pool (Order table.Members place))

abbrev pub flags_of : ℕ → Flags
flags_of bits = record { 0 = bits }

-- the entry of a field, and of a method, at this place of its list; behind it, where the next one stands and its own number
unfoldable pub field_entry_at : List ℕ → ℕ → ℕ → ℕ × ℕ → Result (Listed × (ℕ × ℕ)) DexFault
field_entry_at bytes size place s = do
  number ← stepped_at bytes size s.1 s.0
  flags ← number_at bytes number.1
  order ← ascends_at place s.1 number.0
  Ok (record { number = number.0; flags = flags_of flags.0; code = 0 }, (flags.1, number.0))

unfoldable pub method_entry_at : List ℕ → ℕ → ℕ → ℕ × ℕ → Result (Listed × (ℕ × ℕ)) DexFault
method_entry_at bytes size place s = do
  number ← stepped_at bytes size s.1 s.0
  flags ← number_at bytes number.1
  code ← number_at bytes flags.1
  order ← ascends_at place s.1 number.0
  Ok (record { number = number.0; flags = flags_of flags.0; code = code.0 }, (code.1, number.0))

-- ---- whether it fits its class, its list and the list before

-- where the entry of this number stands in a list
abbrev pub place_in : ℕ → List Listed → Option ℕ
place_in number [] = None
place_in number (e ∷ es) = if nat_eq e.number number then Some 0 else option_map suc (place_in number es)

-- both are true or neither is
abbrev pub agree : Bool → Bool → Bool
agree true b = b
agree false b = not b

-- a field of the class, in the list of static fields exactly where it is static, and not in the list before
abbrev pub field_suits : Program → ℕ → Bool → List Listed → Listed → Bool
field_suits p class static earlier e = is_class_number (class_of_field (slice_get p.fields e.number)) class
    && (agree (is_static e.flags) static && is_none (place_in e.number earlier))

-- static, private, or named with a leading <
abbrev pub is_direct_entry : Program → Listed → Bool
is_direct_entry p e = (is_static e.flags || is_private e.flags) || first_unit (name_of_method p (slice_get p.methods e.number)) == 60

-- a method of the class, in the list of direct ones exactly where it is direct, with code exactly where it is neither abstract nor
-- native, and not in the list before
abbrev pub method_suits : Program → ℕ → Bool → List Listed → Listed → Bool
method_suits p class direct earlier e = is_class_number (class_of_method (slice_get p.methods e.number)) class
    && (agree (is_direct_entry p e) direct
    && (agree (e.code == 0) (lacks_code e.flags) && is_none (place_in e.number earlier)))

abbrev pub suits : Bool → Owner → ℕ → Listed × (ℕ × ℕ) → Result (Listed × (ℕ × ℕ)) DexFault
suits fits owner place e = if fits then Ok e else Err (Member owner.place place)

-- ---- the four lists

unfoldable pub field_at : List ℕ → Program → Owner → Bool → List Listed → ℕ → ℕ × ℕ → Result (Listed × (ℕ × ℕ)) DexFault
field_at bytes p owner static earlier place s = field_entry_at bytes (sizes_in p).fields place s >>= λ e. suits (field_suits p owner.kind static earlier e.0) owner place e

unfoldable pub method_at : List ℕ → Program → Owner → Bool → List Listed → ℕ → ℕ × ℕ → Result (Listed × (ℕ × ℕ)) DexFault
method_at bytes p owner direct earlier place s = method_entry_at bytes (sizes_in p).methods place s >>= λ e. suits (method_suits p owner.kind direct earlier e.0) owner place e

-- so many fields, and so many methods, from this place on, whose numbers count from 0; behind them, where the next list stands, and
-- the last number
abbrev pub fields_at : List ℕ → Program → Owner → Bool → List Listed → ℕ → ℕ → Result (List Listed × (ℕ × ℕ)) DexFault
fields_at bytes p owner static earlier count at = run (field_at bytes p owner static earlier) 0 count (at, 0)

abbrev pub methods_at : List ℕ → Program → Owner → Bool → List Listed → ℕ → ℕ → Result (List Listed × (ℕ × ℕ)) DexFault
methods_at bytes p owner direct earlier count at = run (method_at bytes p owner direct earlier) 0 count (at, 0)

-- the class data at this place: four counts, and the lists
unfoldable pub members_at : List ℕ → Program → Owner → ℕ → Result Members DexFault
members_at bytes p owner at = do
  static_count ← number_at bytes at
  instance_count ← number_at bytes static_count.1
  direct_count ← number_at bytes instance_count.1
  virtual_count ← number_at bytes direct_count.1
  statics ← fields_at bytes p owner true [] static_count.0 virtual_count.1
  instances ← fields_at bytes p owner false statics.0 instance_count.0 statics.1.0
  directs ← methods_at bytes p owner true [] direct_count.0 instances.1.0
  virtuals ← methods_at bytes p owner false directs.0 virtual_count.0 directs.1.0
  Ok (record { statics = statics.0; instances = instances.0; directs = directs.0; virtuals = virtuals.0 })
