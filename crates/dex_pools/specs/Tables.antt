-- The tables of strings, types, protos, fields and methods, as they are read.
use Rattle.std.specs.Prelude.{ℕ, ◌+◌, ◌*◌, List, [], ◌∷◌, length, take, map, slice_index_or, slice_index, Bool, true, false, Result, Ok, Err, nat_le, ◌==◌, ◌&&◌, ◌||◌, if◌then◌else◌}
use Rattle.std.specs.List.{flat_map}
use Rattle.dex_base.specs.declared.fault.BaseFault.{BaseFault}
use Rattle.dex_base.specs.declared.fault.BaseFault.TheVariants as base
use Rattle.dex_base.specs.declared.descriptor.Descriptor.{Descriptor}
use Rattle.dex_base.specs.Reading.{◌>>=◌, raise}
use Rattle.dex_base.specs.Mutf8.{text_at, unit_bytes}
use Rattle.dex_base.specs.Descriptor.{descriptor_of}
use Rattle.program_model.specs.declared.limits.Counted.TheVariants.{TextUnits}
use Rattle.program_model.specs.declared.pools.Proto.{Proto}
use Rattle.program_model.specs.declared.pools.FieldName.{FieldName}
use Rattle.program_model.specs.declared.pools.MethodName.{MethodName}
use Rattle.dex_pools.specs.declared.fault.PoolFault.{PoolFault}
use Rattle.dex_pools.specs.declared.fault.PoolFault.TheVariants.{Short, BadDescriptor, Shorty}
use Rattle.dex_pools.specs.declared.header.Extent.{Extent}
use Rattle.dex_pools.specs.declared.header.Extents.{Extents}
use Rattle.dex_pools.specs.Fault.{of_base}
use Rattle.dex_pools.specs.Word.{word_at, number_at, index_at, half_index_at}
use Rattle.dex_pools.specs.Items.{spend, type_list_at}

-- the size and offset of a table with entries of this width, none where it passes the end of the bytes
unfoldable pub extent_at : List ℕ → ℕ → ℕ → Result Extent PoolFault
extent_at bytes at width = do
  size ← word_at bytes at
  offset ← word_at bytes (at + 4)
  if size == 0 || nat_le (offset + width * size) (length bytes) then Ok (record { size = size; offset = offset }) else Err (Short offset)

unfoldable pub extents_at : List ℕ → Result Extents PoolFault
extents_at bytes = do
  strings ← extent_at bytes 56 4
  types ← extent_at bytes 64 4
  protos ← extent_at bytes 72 12
  fields ← extent_at bytes 80 8
  methods ← extent_at bytes 88 8
  Ok (record { strings = strings; types = types; protos = protos; fields = fields; methods = methods })

-- how many units the text of this number has, and where they begin
unfoldable pub begin_of : List ℕ → Extent → ℕ → Result (ℕ × ℕ) PoolFault
begin_of bytes strings i = word_at bytes (strings.offset + 4 * i) >>= λ at. number_at bytes at

-- the text of this number, and how many units it leaves
unfoldable pub string_at : List ℕ → Extent → ℕ → ℕ → Result (List ℕ × ℕ) PoolFault
string_at bytes strings i left = do
  begin ← begin_of bytes strings i
  behind ← spend TextUnits begin.0 left
  text ← raise of_base (text_at bytes begin.1 begin.0)
  Ok (text.0, behind)

-- the text of this number
abbrev pub text_of : List (List ℕ) → ℕ → List ℕ
text_of strings i = slice_index_or strings i []

-- the fault of a descriptor, whose units begin at this place
abbrev pub placed : ℕ → List ℕ → BaseFault → PoolFault
placed begin text (base.BadDescriptor unit) = BadDescriptor (begin + length (flat_map unit_bytes (take unit text)))
placed begin text fault = of_base fault

abbrev pub described : List ℕ → Extent → ℕ → List ℕ → Result Descriptor BaseFault → Result ℕ PoolFault
described bytes strings i text (Ok kind) = Ok i
described bytes strings i text (Err fault) = begin_of bytes strings i >>= λ begin. Err (placed begin.1 text fault)

-- the string of the type of this number, which is a descriptor
unfoldable pub type_at : List ℕ → Extents → List (List ℕ) → ℕ → Result ℕ PoolFault
type_at bytes tables strings i =
    index_at bytes (tables.types.offset + 4 * i) tables.strings.size >>= λ string. described bytes tables.strings string (text_of strings string) (descriptor_of (text_of strings string))

-- the letter of a type in a shorty: L for each class and array, else that of the descriptor
abbrev pub letter_of : List ℕ → ℕ
letter_of [] = 0
letter_of (unit ∷ units) = if unit == 91 then 76 else unit

abbrev pub letters_of : List (List ℕ) → List ℕ → List ℕ
letters_of strings types = map (λ i. letter_of (text_of strings i)) types

-- a unit of a shorty is the letter of the type, which is not V
abbrev pub spells_one : List ℕ → ℕ → ℕ → Bool
spells_one letters unit kind = unit == slice_index letters kind && (if unit == 86 then false else true)

-- the units of a shorty behind the first are the letters of the parameters
abbrev pub spells_all : List ℕ → List ℕ → List ℕ → Bool
spells_all letters [] [] = true
spells_all letters (unit ∷ units) (kind ∷ kinds) = spells_one letters unit kind && spells_all letters units kinds
spells_all letters [] (kind ∷ kinds) = false
spells_all letters (unit ∷ units) [] = false

-- the text is the shorty of the result and the parameters, none of which is V
abbrev pub spells_shorty : List ℕ → List ℕ → ℕ → List ℕ → Bool
spells_shorty letters [] result parameters = false
spells_shorty letters (unit ∷ units) result parameters = unit == slice_index letters result && spells_all letters units parameters

-- the parameters at this offset, and what they leave of the items; the offset 0 stands for none
unfoldable pub parameters_at : List ℕ → ℕ → ℕ → ℕ → Result (List ℕ × ℕ) PoolFault
parameters_at bytes size offset left = if offset == 0 then Ok ([], left) else type_list_at bytes offset size left

unfoldable pub proto_at : List ℕ → Extents → List (List ℕ) → List ℕ → ℕ → ℕ → Result (Proto × ℕ) PoolFault
proto_at bytes tables strings letters i left = do
  shorty ← index_at bytes (tables.protos.offset + 12 * i) tables.strings.size
  result ← index_at bytes (tables.protos.offset + 12 * i + 4) tables.types.size
  offset ← word_at bytes (tables.protos.offset + 12 * i + 8)
  parameters ← parameters_at bytes tables.types.size offset left
  if spells_shorty letters (text_of strings shorty) result parameters.0 then Ok (record { shorty = shorty; result = result; parameters = parameters.0 }, parameters.1) else Err (Shorty (tables.protos.offset + 12 * i))

unfoldable pub field_at : List ℕ → Extents → List ℕ → ℕ → Result FieldName PoolFault
field_at bytes tables letters i = do
  class ← half_index_at bytes (tables.fields.offset + 8 * i) tables.types.size
  kind ← half_index_at bytes (tables.fields.offset + 8 * i + 2) tables.types.size
  name ← index_at bytes (tables.fields.offset + 8 * i + 4) tables.strings.size
  if slice_index letters kind == 86 then Err (BadDescriptor (tables.fields.offset + 8 * i)) else Ok (record { class = class; kind = kind; name = name })

unfoldable pub method_at : List ℕ → Extents → ℕ → Result MethodName PoolFault
method_at bytes tables i = do
  class ← half_index_at bytes (tables.methods.offset + 8 * i) tables.types.size
  proto ← half_index_at bytes (tables.methods.offset + 8 * i + 2) tables.protos.size
  name ← index_at bytes (tables.methods.offset + 8 * i + 4) tables.strings.size
  Ok (record { class = class; proto = proto; name = name })
