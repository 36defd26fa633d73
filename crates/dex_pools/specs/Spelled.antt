-- What the tables of a file say, place by place. A relation: nothing here reads in any order.
use Rattle.std.specs.Prelude.{◌≡◌, ◌+◌, ◌*◌, ◌≤◌, ◌<◌, ℕ, zero, suc, List, [], length, sum_by, slice_index, nat_lt, true}
use Rattle.dex_base.specs.declared.descriptor.Descriptor.{Descriptor}
use Rattle.dex_base.specs.Decides.{Entries}
use Rattle.dex_base.specs.Word.{Is16, Is32}
use Rattle.dex_base.specs.Leb.{IsUlebAt}
use Rattle.dex_base.specs.Mutf8.{IsTextAt}
use Rattle.dex_base.specs.Grammar.{IsDescriptor}
use Rattle.program_model.specs.declared.pools.Proto.{Proto}
use Rattle.program_model.specs.declared.pools.FieldName.{FieldName}
use Rattle.program_model.specs.declared.pools.MethodName.{MethodName}
use Rattle.dex_pools.specs.declared.header.Extent.{Extent}
use Rattle.dex_pools.specs.declared.header.Extents.{Extents}
use Rattle.dex_pools.specs.declared.pools.Pools.{Pools}
use Rattle.dex_pools.specs.Finds.{Ascends}
use Rattle.dex_pools.specs.Order.{list_below, proto_below, field_below, method_below}
use Rattle.dex_pools.specs.Tables.{text_of, letters_of, spells_shorty}

-- a number below the size of a table, in four bytes and in two
pub record IsIndex (bytes : List ℕ) (at size n : ℕ) : Type 0 where
  pub is : Is32 bytes at n
  pub below : n < size

pub record IsHalfIndex (bytes : List ℕ) (at size n : ℕ) : Type 0 where
  pub is : Is16 bytes at n
  pub below : n < size

-- the size and the offset of a table with entries of this width, which doesn't pass the end
pub record IsExtent (bytes : List ℕ) (at width : ℕ) (t : Extent) : Type 0 where
  pub size : Is32 bytes at t.size
  pub offset : Is32 bytes (at + 4) t.offset
  pub inside : 0 < t.size → t.offset + width * t.size ≤ length bytes

pub record AreExtents (bytes : List ℕ) (t : Extents) : Type 0 where
  pub strings : IsExtent bytes 56 4 t.strings
  pub types : IsExtent bytes 64 4 t.types
  pub protos : IsExtent bytes 72 12 t.protos
  pub fields : IsExtent bytes 80 8 t.fields
  pub methods : IsExtent bytes 88 8 t.methods

-- how many units the string of this number has, and where they begin
pub record IsBegin (bytes : List ℕ) (strings : Extent) (i : ℕ) (begin : ℕ × ℕ) : Type 0 where
  pub at : ℕ
  pub offset : Is32 bytes (strings.offset + 4 * i) at
  pub units : IsUlebAt bytes at begin

pub record IsString (bytes : List ℕ) (strings : Extent) (i : ℕ) (text : List ℕ) : Type 0 where
  pub begin : ℕ × ℕ
  pub begins : IsBegin bytes strings i begin
  pub stop : ℕ
  pub is_text : IsTextAt bytes begin.1 begin.0 (text, stop)

-- a type is the number of a string that is a descriptor
pub record IsType (bytes : List ℕ) (tables : Extents) (strings : List (List ℕ)) (i n : ℕ) : Type 0 where
  pub string : IsIndex bytes (tables.types.offset + 4 * i) tables.strings.size n
  pub kind : Descriptor
  pub describes : IsDescriptor (text_of strings n) kind

pub record IsTypeList (bytes : List ℕ) (at size : ℕ) (types : List ℕ) : Type 0 where
  pub count : Is32 bytes at (length types)
  pub inside : at + 4 + 2 * length types ≤ length bytes
  pub entries : Entries (length types) (λ i n. IsHalfIndex bytes (at + 4 + 2 * i) size n) types

-- the offset 0 stands for the empty list
abbrev pub AreParameters : List ℕ → ℕ → ℕ → List ℕ → Type 0
AreParameters bytes size zero types = types ≡ []
AreParameters bytes size (suc k) types = IsTypeList bytes (suc k) size types

-- a proto has the shorty of its result and its parameters, of which none is V
pub record IsProto (bytes : List ℕ) (tables : Extents) (strings : List (List ℕ)) (letters : List ℕ) (i : ℕ) (p : Proto) : Type 0 where
  pub shorty : IsIndex bytes (tables.protos.offset + 12 * i) tables.strings.size p.shorty
  pub outcome : IsIndex bytes (tables.protos.offset + 12 * i + 4) tables.types.size p.result
  pub offset : ℕ
  pub is_offset : Is32 bytes (tables.protos.offset + 12 * i + 8) offset
  pub parameters : AreParameters bytes tables.types.size offset p.parameters
  pub spelled : spells_shorty letters (text_of strings p.shorty) p.result p.parameters ≡ true

-- a field's type is not V
pub record IsField (bytes : List ℕ) (tables : Extents) (letters : List ℕ) (i : ℕ) (f : FieldName) : Type 0 where
  pub class : IsHalfIndex bytes (tables.fields.offset + 8 * i) tables.types.size f.class
  pub kind : IsHalfIndex bytes (tables.fields.offset + 8 * i + 2) tables.types.size f.kind
  pub name : IsIndex bytes (tables.fields.offset + 8 * i + 4) tables.strings.size f.name
  pub some : slice_index letters f.kind ≡ 86 → ⊥

pub record IsMethod (bytes : List ℕ) (tables : Extents) (i : ℕ) (m : MethodName) : Type 0 where
  pub class : IsHalfIndex bytes (tables.methods.offset + 8 * i) tables.types.size m.class
  pub proto : IsHalfIndex bytes (tables.methods.offset + 8 * i + 2) tables.protos.size m.proto
  pub name : IsIndex bytes (tables.methods.offset + 8 * i + 4) tables.strings.size m.name

-- how many parameters the protos have
abbrev pub parameter_count : List Proto → ℕ
parameter_count protos = sum_by (λ p. length p.parameters) protos

-- The tables stand where the header says, their entries ascend, and they keep the limits of units and of items.
pub record SpellsPools (bytes : List ℕ) (left : ℕ) (pools : Pools) : Type 0 where
  pub tables : Extents
  pub stand : AreExtents bytes tables
  pub strings : Entries tables.strings.size (IsString bytes tables.strings) pools.strings
  pub strings_ascend : Ascends list_below pools.strings
  pub units : sum_by (λ text. length text) pools.strings ≤ 16777216
  pub types : Entries tables.types.size (IsType bytes tables pools.strings) pools.types
  pub types_ascend : Ascends nat_lt pools.types
  pub protos : Entries tables.protos.size (IsProto bytes tables pools.strings (letters_of pools.strings pools.types)) pools.protos
  pub protos_ascend : Ascends proto_below pools.protos
  pub items : parameter_count pools.protos ≤ left
  pub fields : Entries tables.fields.size (IsField bytes tables (letters_of pools.strings pools.types)) pools.fields
  pub fields_ascend : Ascends field_below pools.fields
  pub methods : Entries tables.methods.size (IsMethod bytes tables) pools.methods
  pub methods_ascend : Ascends method_below pools.methods
