-- Where the items of a file and their parts stand, by the numbers alone that place them: nothing is asked of other items.
use Rattle.std.specs.Prelude.{◌≡◌, ◌+◌, ◌*◌, ◌<◌, ◌≤◌, ℕ, zero, suc, List, [], ◌∷◌, length, slice_index}
use Rattle.dex_base.specs.Word.{Is32}
use Rattle.dex_base.specs.Leb.{IsUlebAt}
use Rattle.dex_base.specs.Decides.{ChainOf}
use Rattle.dex_pools.specs.declared.header.Extent.{Extent}
use Rattle.dex_defs.specs.Values.{HasTag, tag_at, argument_at}
use Rattle.dex_defs.specs.ClassDefs.{Def, IsDef}
use Rattle.dex_defs.specs.ClassData.{Entry, IsFieldEntry, IsMethodEntry, EntriesTo}
use Rattle.dex_defs.specs.CodeItems.{Frame, IsFrame}

-- a table by where the header has its size and offset
pub record IsTable (bytes : List ℕ) (at : ℕ) (t : Extent) : Type 0 where
  pub size : Is32 bytes at t.size
  pub offset : Is32 bytes (at + 4) t.offset

-- the entry of this number in the table that the header names there, whose entries have this width
pub record IsEntryAt (bytes : List ℕ) (header width i at : ℕ) : Type 0 where
  pub table : Extent
  pub is : IsTable bytes header table
  pub inside : i < table.size
  pub place : at ≡ table.offset + width * i

-- the class_def of this number
pub record HasDef (bytes : List ℕ) (class : ℕ) (def : Def) : Type 0 where
  pub at : ℕ
  pub stands : IsEntryAt bytes 96 32 class at
  pub is : IsDef bytes at def

-- an offset other than 0
abbrev pub Leads : ℕ → ℕ → Type 0
Leads offset at = (0 < offset) × (at ≡ offset)

-- ---- class data: lists 0 and 1 are fields, 2 and 3 methods

abbrev pub IsEntryOf : List ℕ → ℕ → ℕ → ℕ → Entry → ℕ → Type 0
IsEntryOf bytes zero before at e stop = IsFieldEntry bytes before at e stop
IsEntryOf bytes (suc zero) before at e stop = IsFieldEntry bytes before at e stop
IsEntryOf bytes (suc (suc n)) before at e stop = IsMethodEntry bytes before at e stop

pub record HasCounts (bytes : List ℕ) (at : ℕ) (counts : List ℕ) (stop : ℕ) : Type 0 where
  pub four : length counts ≡ 4
  pub are : ChainOf (IsUlebAt bytes) at counts stop

-- whole lists one behind another, the first of which has this number
abbrev pub ListsTo : List ℕ → List ℕ → ℕ → ℕ → List (List Entry) → ℕ → Type 0
ListsTo bytes counts which at [] stop = stop ≡ at
ListsTo bytes counts which at (es ∷ lists) stop = (length es ≡ slice_index counts which)
    × ((mid : ℕ) × EntriesTo (IsEntryOf bytes which) 0 at es mid × ListsTo bytes counts (suc which) mid lists stop)

-- the number of the last entry, from which the next one's step counts
abbrev pub last_number : ℕ → List Entry → ℕ
last_number number [] = number
last_number number (e ∷ es) = last_number e.number es

-- the entry at this place of a list begins at this offset, behind an entry with this number; entries behind it may be broken
pub record EntryStands (bytes : List ℕ) (data_at which place before at : ℕ) : Type 0 where
  pub counts : List ℕ
  pub begin : ℕ
  pub has : HasCounts bytes data_at counts begin
  pub lists : List (List Entry)
  pub many : length lists ≡ which
  pub mid : ℕ
  pub full : ListsTo bytes counts 0 begin lists mid
  pub front : List Entry
  pub place_is : length front ≡ place
  pub inside : place < slice_index counts which
  pub stands : EntriesTo (IsEntryOf bytes which) 0 mid front at
  pub before_is : before ≡ last_number 0 front

-- a member of the class of this number, in this list and at this place of it
pub record HasEntry (bytes : List ℕ) (class which place : ℕ) (e : Entry) : Type 0 where
  pub def : Def
  pub has : HasDef bytes class def
  pub data_at : ℕ
  pub leads : Leads def.data_at data_at
  pub before : ℕ
  pub at : ℕ
  pub stop : ℕ
  pub stands : EntryStands bytes data_at which place before at
  pub is : IsEntryOf bytes which before at e stop

-- the code of a method of the class of this number
pub record HasFrame (bytes : List ℕ) (class : ℕ) (e : Entry) (at : ℕ) (f : Frame) : Type 0 where
  pub which : ℕ
  pub place : ℕ
  pub method : 2 ≤ which
  pub entry : HasEntry bytes class which place e
  pub leads : Leads e.code at
  pub is : IsFrame bytes at f

-- ---- annotations

-- the directory of a class
pub record HasDirectory (bytes : List ℕ) (class at : ℕ) : Type 0 where
  pub def : Def
  pub has : HasDef bytes class def
  pub leads : Leads def.annotations at

-- the counts of a directory's three lists
pub record DirectoryCounts (bytes : List ℕ) (at fields methods parameters : ℕ) : Type 0 where
  pub is_fields : Is32 bytes (at + 4) fields
  pub is_methods : Is32 bytes (at + 8) methods
  pub is_parameters : Is32 bytes (at + 12) parameters

-- which pairs are those of a list: the first ones are of fields, then of methods, then of parameters
abbrev pub InList : ℕ → ℕ → ℕ → ℕ → ℕ → Type 0
InList fields methods parameters zero i = i < fields
InList fields methods parameters (suc zero) i = (fields ≤ i) × (i < fields + methods)
InList fields methods parameters (suc (suc which)) i = (fields + methods ≤ i) × (i < fields + methods + parameters)

-- a pair of a directory's list begins at this offset
pub record PairStands (bytes : List ℕ) (class which at : ℕ) : Type 0 where
  pub directory : ℕ
  pub has : HasDirectory bytes class directory
  pub fields : ℕ
  pub methods : ℕ
  pub parameters : ℕ
  pub counts : DirectoryCounts bytes directory fields methods parameters
  pub i : ℕ
  pub inside : InList fields methods parameters which i
  pub place : at ≡ directory + 16 + 8 * i

-- an offset that a pair has
pub record PairLeads (bytes : List ℕ) (which at : ℕ) : Type 0 where
  pub class : ℕ
  pub pair : ℕ
  pub stands : PairStands bytes class which pair
  pub offset : ℕ
  pub is : Is32 bytes (pair + 4) offset
  pub leads : Leads offset at

-- the offset at this place of a list of offsets
pub record ListedAt (bytes : List ℕ) (at i offset : ℕ) : Type 0 where
  pub count : ℕ
  pub is_count : Is32 bytes at count
  pub inside : i < count
  pub is : Is32 bytes (at + 4 + 4 * i) offset

-- the list of sets of a method's parameters
abbrev pub HasRefs : List ℕ → ℕ → Type 0
HasRefs bytes at = PairLeads bytes 2 at

-- a set of annotations: of a class, of a field or method, or of a parameter
pub data HasSet (bytes : List ℕ) (at : ℕ) : Type 0 where
  OfClass : (class directory offset : ℕ) → HasDirectory bytes class directory → Is32 bytes directory offset → Leads offset at → HasSet bytes at
  OfField : PairLeads bytes 0 at → HasSet bytes at
  OfMethod : PairLeads bytes 1 at → HasSet bytes at
  OfParameter : (refs i offset : ℕ) → HasRefs bytes refs → ListedAt bytes refs i offset → Leads offset at → HasSet bytes at

-- an annotation, also where its offset is 0
pub record HasMark (bytes : List ℕ) (at : ℕ) : Type 0 where
  pub set : ℕ
  pub has : HasSet bytes set
  pub i : ℕ
  pub listed : ListedAt bytes set i at

-- the array of the first values of a class
pub record HasArray (bytes : List ℕ) (class at : ℕ) : Type 0 where
  pub def : Def
  pub has : HasDef bytes class def
  pub leads : Leads def.values at

-- ---- values: where one ends, whatever its numbers are

-- so many, one behind another
abbrev pub Repeat : (ℕ → ℕ → Type 0) → ℕ → ℕ → ℕ → Type 0
Repeat Ends zero at stop = stop ≡ at
Repeat Ends (suc n) at stop = (mid : ℕ) × Ends at mid × Repeat Ends n mid stop

-- an element of an annotation: a name and a value
pub record ElementEnds (bytes : List ℕ) (Ends : ℕ → ℕ → Type 0) (at stop : ℕ) : Type 0 where
  pub name : ℕ
  pub mid : ℕ
  pub is_name : IsUlebAt bytes at (name, mid)
  pub ends : Ends mid stop

-- where the elements of an annotation begin, and how many they are
pub record NoteBegins (bytes : List ℕ) (at count begin : ℕ) : Type 0 where
  pub kind : ℕ
  pub mid : ℕ
  pub is_kind : IsUlebAt bytes at (kind, mid)
  pub is_count : IsUlebAt bytes mid (count, begin)

pub data EndsWith (bytes : List ℕ) (Ends : ℕ → ℕ → Type 0) (at stop : ℕ) : Type 0 where
  Scalar : HasTag bytes at → tag_at bytes at < 28 → stop ≡ at + 2 + argument_at bytes at → EndsWith bytes Ends at stop
  Array : (count begin : ℕ) → HasTag bytes at → tag_at bytes at ≡ 28 → IsUlebAt bytes (at + 1) (count, begin) → Repeat Ends count begin stop → EndsWith bytes Ends at stop
  Note : (count begin : ℕ) → HasTag bytes at → tag_at bytes at ≡ 29 → NoteBegins bytes (at + 1) count begin → Repeat (ElementEnds bytes Ends) count begin stop → EndsWith bytes Ends at stop
  Tag : HasTag bytes at → 29 < tag_at bytes at → stop ≡ at + 1 → EndsWith bytes Ends at stop

-- values in which values lie so deep at most
abbrev pub EndsIn : List ℕ → ℕ → ℕ → ℕ → Type 0
EndsIn bytes zero at stop = ⊥
EndsIn bytes (suc depth) at stop = EndsWith bytes (EndsIn bytes depth) at stop

pub record Ends (bytes : List ℕ) (at stop : ℕ) : Type 0 where
  pub depth : ℕ
  pub ends : EndsIn bytes depth at stop

-- an element of the annotation whose type stands at this place begins at that one
pub record ElementStands (bytes : List ℕ) (note place at : ℕ) : Type 0 where
  pub count : ℕ
  pub begin : ℕ
  pub begins : NoteBegins bytes note count begin
  pub inside : place < count
  pub behind : Repeat (ElementEnds bytes (Ends bytes)) place begin at

-- a value lies directly in another, or in an annotation without its visibility
pub data IsElementOf (bytes : List ℕ) (note at : ℕ) : Type 0 where
  Element : (place element name : ℕ) → ElementStands bytes note place element → IsUlebAt bytes element (name, at) → IsElementOf bytes note at

pub data IsItemOf (bytes : List ℕ) (array place at : ℕ) : Type 0 where
  Item : (count begin : ℕ) → IsUlebAt bytes array (count, begin) → place < count → Repeat (Ends bytes) place begin at → IsItemOf bytes array place at

pub data IsInside (bytes : List ℕ) (outer inner : ℕ) : Type 0 where
  OfArray : (place : ℕ) → HasTag bytes outer → tag_at bytes outer ≡ 28 → IsItemOf bytes (outer + 1) place inner → IsInside bytes outer inner
  OfNote : HasTag bytes outer → tag_at bytes outer ≡ 29 → IsElementOf bytes (outer + 1) inner → IsInside bytes outer inner

-- a value that lies in no other one: a first value, or one of an annotation's
pub data HasOuter (bytes : List ℕ) (at : ℕ) : Type 0 where
  First : (class array place : ℕ) → HasArray bytes class array → IsItemOf bytes array place at → HasOuter bytes at
  OfMark : (mark : ℕ) → HasMark bytes mark → IsElementOf bytes (mark + 1) at → HasOuter bytes at

-- a value that lies so deep, itself counted
abbrev pub HasValue : List ℕ → ℕ → ℕ → Type 0
HasValue bytes zero at = ⊥
HasValue bytes (suc zero) at = HasOuter bytes at
HasValue bytes (suc (suc depth)) at = (outer : ℕ) × HasValue bytes (suc depth) outer × IsInside bytes outer at
