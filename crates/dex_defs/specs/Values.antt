-- Values (Dalvik executable format, "encoded_value", "encoded_array", "encoded_annotation") and the first values of static fields. A
-- relation over a value's type, its argument and its bytes: nothing here counts what is read.
use Rattle.std.specs.Prelude.{◌≡◌, ◌+◌, ◌/◌, ◌%◌, ◌<◌, ◌≤◌, ℕ, zero, suc, pos, List, [], ◌∷◌, length, slice_index, Bool, true, false, not, ◌||◌, ◌==◌, nat_eq, Option, Some, None, if◌then◌else◌, slice_get}
use Rattle.std.specs.Int.{w32}
use Rattle.std.specs.List.{All}
use Rattle.std.specs.Ordering.{int_eq}
use Rattle.dex_base.specs.Decides.{ChainOf}
use Rattle.dex_base.specs.Leb.{IsUlebAt}
use Rattle.program_model.specs.declared.value.EncValue.{EncValue, EncValue-F, out-EncValue}
use Rattle.program_model.specs.declared.value.EncValue.TheOpen as value
use Rattle.program_model.specs.declared.value.EncValue.TheVariants as whole
use Rattle.program_model.specs.declared.value.Element.{Element}
use Rattle.program_model.specs.declared.value.Note.{Note, roll-Note}
use Rattle.program_model.specs.declared.program.Field.{Field}
use Rattle.program_model.specs.declared.program.Program.{Program}
use Rattle.program_model.specs.Texts.{is_reference}
use Rattle.program_model.specs.MemberRules.{field_letter}
use Rattle.dex_pools.specs.declared.scalar.TableSizes.{TableSizes}
use Rattle.dex_pools.specs.Value.{most_argument, is_within, numeric, naming, size_for, zero_extended, element_below}
use Rattle.dex_pools.specs.Finds.{Ascends}
use Rattle.dex_defs.specs.Here.{Here}

-- ---- one value

-- the type in the low five bits of the first byte, and the argument in the high three
abbrev pub tag_at : List ℕ → ℕ → ℕ
tag_at bytes at = slice_index bytes at % 32

abbrev pub argument_at : List ℕ → ℕ → ℕ
argument_at bytes at = slice_index bytes at / 32

-- the value has a type and a right argument
abbrev pub HasTag : List ℕ → ℕ → Type 0
HasTag bytes at = (at < length bytes) × (is_within (argument_at bytes at) (most_argument (tag_at bytes at)) ≡ true)

-- the bytes behind the first one, one more than the argument
pub record HasFew (bytes : List ℕ) (at : ℕ) (few : List ℕ) : Type 0 where
  pub many : length few ≡ argument_at bytes at + 1
  pub here : Here bytes (at + 1) few

-- the values of an array, and the place behind them; what a value is that lies in it, Inner says
pub record AreItems (bytes : List ℕ) (Inner : ℕ → EncValue × ℕ → Type 0) (at : ℕ) (read : List EncValue × ℕ) : Type 0 where
  pub begin : ℕ
  pub count : IsUlebAt bytes at (length read.0, begin)
  pub are : ChainOf Inner begin read.0 read.1

-- an element of an annotation: its name and its value
pub record IsElement (bytes : List ℕ) (sizes : TableSizes) (Inner : ℕ → EncValue × ℕ → Type 0) (at : ℕ) (read : Element × ℕ) : Type 0 where
  pub mid : ℕ
  pub name : IsUlebAt bytes at (read.0.name, mid)
  pub below : read.0.name < sizes.strings
  pub value : Inner mid (read.0.value, read.1)

-- an annotation without its visibility: its type, and its elements in the order of their names
pub record IsNote (bytes : List ℕ) (sizes : TableSizes) (Inner : ℕ → EncValue × ℕ → Type 0) (at : ℕ) (read : Note × ℕ) : Type 0 where
  pub class : ℕ
  pub mid : ℕ
  pub begin : ℕ
  pub is_class : IsUlebAt bytes at (class, mid)
  pub below : class < sizes.types
  pub elements : List Element
  pub count : IsUlebAt bytes mid (length elements, begin)
  pub are : ChainOf (IsElement bytes sizes Inner) begin elements read.1
  pub ascend : Ascends element_below elements
  pub is : read.0 ≡ roll-Note (record { class = class; elements = elements })

-- by its type: a number, the number of an entry, values, an annotation, null, true or false
pub data IsValueIn (bytes : List ℕ) (sizes : TableSizes) (Inner : ℕ → EncValue × ℕ → Type 0) (at : ℕ) (read : EncValue × ℕ) : Type 0 where
  Number : (few : List ℕ) → HasTag bytes at → tag_at bytes at < 23 → HasFew bytes at few → read ≡ (numeric (tag_at bytes at) few, at + 1 + length few) → IsValueIn bytes sizes Inner at read
  Name : (few : List ℕ) → HasTag bytes at → 23 ≤ tag_at bytes at → tag_at bytes at < 28 → HasFew bytes at few → zero_extended w32 few < size_for sizes (tag_at bytes at)
      → read ≡ (naming (tag_at bytes at) (zero_extended w32 few), at + 1 + length few) → IsValueIn bytes sizes Inner at read
  Array : (items : List EncValue) (stop : ℕ) → HasTag bytes at → tag_at bytes at ≡ 28 → AreItems bytes Inner (at + 1) (items, stop) → read ≡ (whole.Array items, stop) → IsValueIn bytes sizes Inner at read
  Annotation : (note : Note) (stop : ℕ) → HasTag bytes at → tag_at bytes at ≡ 29 → IsNote bytes sizes Inner (at + 1) (note, stop) → read ≡ (whole.Annotation note, stop) → IsValueIn bytes sizes Inner at read
  Null : HasTag bytes at → tag_at bytes at ≡ 30 → read ≡ (whole.Null, at + 1) → IsValueIn bytes sizes Inner at read
  Boolean : HasTag bytes at → tag_at bytes at ≡ 31 → read ≡ (whole.Bool (argument_at bytes at == 1), at + 1) → IsValueIn bytes sizes Inner at read

-- the value at this place, in which values lie so deep at most, itself counted, and the place behind it
abbrev pub IsValue : List ℕ → TableSizes → ℕ → ℕ → EncValue × ℕ → Type 0
IsValue bytes sizes zero at read = ⊥
IsValue bytes sizes (suc depth) at read = IsValueIn bytes sizes (IsValue bytes sizes depth) at read

-- ---- first values

-- the values of the array at this place, which nest 64 deep at most
pub record AreValues (bytes : List ℕ) (sizes : TableSizes) (at : ℕ) (vs : List EncValue) : Type 0 where
  pub stop : ℕ
  pub are : AreItems bytes (IsValue bytes sizes 64) at (vs, stop)

-- the offset 0 stands for no values
abbrev pub AreValuesOf : List ℕ → TableSizes → ℕ → List EncValue → Type 0
AreValuesOf bytes sizes zero vs = vs ≡ []
AreValuesOf bytes sizes (suc k) vs = AreValues bytes sizes (suc k) vs

-- a value of this type suits a field whose type has this letter
abbrev pub suits : ℕ → ℕ → Bool
suits letter tag = if tag == 0 then letter == 66
    else if tag == 2 then letter == 83
    else if tag == 3 then letter == 67
    else if tag == 4 then letter == 73
    else if tag == 6 then letter == 74
    else if tag == 16 then letter == 70
    else if tag == 17 then letter == 68
    else if tag == 31 then letter == 90
    else if tag == 23 || (tag == 24 || tag == 30) then is_reference letter
    else false

-- the type of a value
abbrev pub tag_of : EncValue-F EncValue Element Note → ℕ
tag_of (value.Byte n) = 0
tag_of (value.Short n) = 2
tag_of (value.Char n) = 3
tag_of (value.Int n) = 4
tag_of (value.Long n) = 6
tag_of (value.Float bits) = 16
tag_of (value.Double bits) = 17
tag_of (value.Str n) = 23
tag_of (value.Class n) = 24
tag_of (value.Field n) = 25
tag_of (value.Method n) = 26
tag_of (value.Enum n) = 27
tag_of (value.Array values) = 28
tag_of (value.Annotation note) = 29
tag_of value.Null = 30
tag_of (value.Bool b) = 31

abbrev pub is_of : ℕ → EncValue → Bool
is_of letter v = suits letter (tag_of (out-EncValue v))

-- zero, false or null, which a field without a first value holds
abbrev pub layer_is_zero : EncValue-F EncValue Element Note → Bool
layer_is_zero (value.Byte n) = int_eq n (pos 0)
layer_is_zero (value.Short n) = int_eq n (pos 0)
layer_is_zero (value.Char n) = nat_eq n 0
layer_is_zero (value.Int n) = int_eq n (pos 0)
layer_is_zero (value.Long n) = int_eq n (pos 0)
layer_is_zero (value.Float bits) = nat_eq bits 0
layer_is_zero (value.Double bits) = nat_eq bits 0
layer_is_zero (value.Bool b) = not b
layer_is_zero value.Null = true
layer_is_zero v = false

abbrev pub first_of : EncValue → Option EncValue
first_of v = if layer_is_zero (out-EncValue v) then None else Some v

-- the letter of a field's type
abbrev pub letter_of_field : Program → ℕ → ℕ
letter_of_field p number = field_letter p (slice_get p.fields number)

-- the static fields have these first values, in their order; fields behind the last value have none
abbrev pub AreFirsts : Program → List EncValue → List Field → Type 0
AreFirsts p [] fields = All (λ f. f.first ≡ None) fields
AreFirsts p (v ∷ vs) [] = ⊥
AreFirsts p (v ∷ vs) (f ∷ fs) = (is_of (letter_of_field p f.name) v ≡ true) × (f.first ≡ first_of v) × AreFirsts p vs fs
