-- Which parts are placed in a file: one constructor for each, whose premises are the placing numbers alone.
use Rattle.std.specs.Prelude.{◌≡◌, ◌+◌, ◌*◌, ◌<◌, ◌≤◌, ℕ, List}
use Rattle.dex_base.specs.Word.{Is32}
use Rattle.dex_base.specs.Leb.{IsUlebAt}
use Rattle.dex_pools.specs.declared.header.Extent.{Extent}
use Rattle.dex_defs.specs.Parts.{Part, Bytes, Number, Units, IndexOf, HalfIndexOf, NumberIndexOf, IndexOrNone}
use Rattle.dex_defs.specs.Values.{HasTag, tag_at, argument_at}
use Rattle.dex_defs.specs.ClassDefs.{Def}
use Rattle.dex_defs.specs.ClassData.{Entry}
use Rattle.dex_defs.specs.CodeItems.{Frame, tries_at}
use Rattle.dex_defs.specs.Places.{IsTable, IsEntryAt, HasDef, Leads, EntryStands, HasEntry, HasFrame, HasDirectory, DirectoryCounts, PairStands, HasRefs, HasSet, HasMark, HasArray, HasValue, ElementStands}

-- where the header names a table, and how wide its entries are
pub data IsTableAt (header width : ℕ) : Type 0 where
  Strings : header ≡ 56 → width ≡ 4 → IsTableAt header width
  Types : header ≡ 64 → width ≡ 4 → IsTableAt header width
  Protos : header ≡ 72 → width ≡ 12 → IsTableAt header width
  Fields : header ≡ 80 → width ≡ 8 → IsTableAt header width
  Methods : header ≡ 88 → width ≡ 8 → IsTableAt header width
  Classes : header ≡ 96 → width ≡ 32 → IsTableAt header width

-- how many entries the table has that the header names there
abbrev pub HasSize : List ℕ → ℕ → ℕ → Type 0
HasSize bytes header size = Is32 bytes header size

-- a list of types
pub data HasTypeList (bytes : List ℕ) (at : ℕ) : Type 0 where
  OfProto : (i entry offset : ℕ) → IsEntryAt bytes 72 12 i entry → Is32 bytes (entry + 8) offset → Leads offset at → HasTypeList bytes at
  OfClass : (class : ℕ) (def : Def) → HasDef bytes class def → Leads def.interfaces at → HasTypeList bytes at

-- ---- the header and the tables

pub data InTables (bytes : List ℕ) : Part → Type 0 where
  TheHeader : InTables bytes (Bytes 0 112)
  TheTable : (header width : ℕ) (t : Extent) → IsTableAt header width → IsTable bytes header t → 0 < t.size → InTables bytes (Bytes t.offset (width * t.size))
  StringCount : (i entry offset : ℕ) → IsEntryAt bytes 56 4 i entry → Is32 bytes entry offset → InTables bytes (Number offset)
  StringText : (i entry offset units begin : ℕ) → IsEntryAt bytes 56 4 i entry → Is32 bytes entry offset → IsUlebAt bytes offset (units, begin) → InTables bytes (Units begin units)
  TypeString : (i entry size : ℕ) → IsEntryAt bytes 64 4 i entry → HasSize bytes 56 size → InTables bytes (IndexOf entry size)
  ProtoShorty : (i entry size : ℕ) → IsEntryAt bytes 72 12 i entry → HasSize bytes 56 size → InTables bytes (IndexOf entry size)
  ProtoResult : (i entry size : ℕ) → IsEntryAt bytes 72 12 i entry → HasSize bytes 64 size → InTables bytes (IndexOf (entry + 4) size)
  FieldClass : (i entry size : ℕ) → IsEntryAt bytes 80 8 i entry → HasSize bytes 64 size → InTables bytes (HalfIndexOf entry size)
  FieldType : (i entry size : ℕ) → IsEntryAt bytes 80 8 i entry → HasSize bytes 64 size → InTables bytes (HalfIndexOf (entry + 2) size)
  FieldText : (i entry size : ℕ) → IsEntryAt bytes 80 8 i entry → HasSize bytes 56 size → InTables bytes (IndexOf (entry + 4) size)
  MethodClass : (i entry size : ℕ) → IsEntryAt bytes 88 8 i entry → HasSize bytes 64 size → InTables bytes (HalfIndexOf entry size)
  MethodProto : (i entry size : ℕ) → IsEntryAt bytes 88 8 i entry → HasSize bytes 72 size → InTables bytes (HalfIndexOf (entry + 2) size)
  MethodText : (i entry size : ℕ) → IsEntryAt bytes 88 8 i entry → HasSize bytes 56 size → InTables bytes (IndexOf (entry + 4) size)
  ListCount : (at : ℕ) → HasTypeList bytes at → InTables bytes (Bytes at 4)
  ListWhole : (at count : ℕ) → HasTypeList bytes at → Is32 bytes at count → InTables bytes (Bytes at (4 + 2 * count))
  ListEntry : (at count i size : ℕ) → HasTypeList bytes at → Is32 bytes at count → i < count → HasSize bytes 64 size → InTables bytes (HalfIndexOf (at + 4 + 2 * i) size)

-- ---- classes, their members and code

pub data InClasses (bytes : List ℕ) : Part → Type 0 where
  ClassType : (class entry size : ℕ) → IsEntryAt bytes 96 32 class entry → HasSize bytes 64 size → InClasses bytes (IndexOf entry size)
  Superclass : (class entry size : ℕ) → IsEntryAt bytes 96 32 class entry → HasSize bytes 64 size → InClasses bytes (IndexOrNone (entry + 8) size)
  Source : (class entry size : ℕ) → IsEntryAt bytes 96 32 class entry → HasSize bytes 56 size → InClasses bytes (IndexOrNone (entry + 16) size)
  FirstCount : (class at : ℕ) (def : Def) → HasDef bytes class def → Leads def.data_at at → InClasses bytes (Number at)
  SecondCount : (class at n mid : ℕ) (def : Def) → HasDef bytes class def → Leads def.data_at at → IsUlebAt bytes at (n, mid) → InClasses bytes (Number mid)
  ThirdCount : (class at n m mid next : ℕ) (def : Def) → HasDef bytes class def → Leads def.data_at at → IsUlebAt bytes at (n, mid) → IsUlebAt bytes mid (m, next) → InClasses bytes (Number next)
  FourthCount : (class at n m k mid next last : ℕ) (def : Def) → HasDef bytes class def → Leads def.data_at at → IsUlebAt bytes at (n, mid) → IsUlebAt bytes mid (m, next) → IsUlebAt bytes next (k, last) → InClasses bytes (Number last)
  EntryStep : (class data_at which place before at : ℕ) (def : Def) → HasDef bytes class def → Leads def.data_at data_at → EntryStands bytes data_at which place before at → InClasses bytes (Number at)
  EntryFlags : (class data_at which place before at step mid : ℕ) (def : Def) → HasDef bytes class def → Leads def.data_at data_at → EntryStands bytes data_at which place before at → IsUlebAt bytes at (step, mid) → InClasses bytes (Number mid)
  EntryCode : (class data_at which place before at step flags mid next : ℕ) (def : Def) → HasDef bytes class def → Leads def.data_at data_at → EntryStands bytes data_at which place before at → 2 ≤ which → IsUlebAt bytes at (step, mid) → IsUlebAt bytes mid (flags, next) → InClasses bytes (Number next)
  CodeFrame : (class which place at : ℕ) (e : Entry) → 2 ≤ which → HasEntry bytes class which place e → Leads e.code at → InClasses bytes (Bytes at 16)
  CodeUnits : (class at : ℕ) (e : Entry) (f : Frame) → HasFrame bytes class e at f → InClasses bytes (Bytes at (16 + 2 * f.size))
  CodeTries : (class at size : ℕ) (e : Entry) (f : Frame) → HasFrame bytes class e at f → 0 < f.tries → at + size ≡ tries_at at f + 8 * f.tries → InClasses bytes (Bytes at size)
  ArrayCount : (class at : ℕ) → HasArray bytes class at → InClasses bytes (Number at)

-- ---- annotations and values

pub data InAnnotations (bytes : List ℕ) : Part → Type 0 where
  DirectoryHead : (class at : ℕ) → HasDirectory bytes class at → InAnnotations bytes (Bytes at 16)
  DirectoryWhole : (class at fields methods parameters : ℕ) → HasDirectory bytes class at → DirectoryCounts bytes at fields methods parameters → InAnnotations bytes (Bytes at (16 + 8 * (fields + methods + parameters)))
  PairField : (class pair size : ℕ) → PairStands bytes class 0 pair → HasSize bytes 80 size → InAnnotations bytes (IndexOf pair size)
  PairMethod : (class pair size : ℕ) → PairStands bytes class 1 pair → HasSize bytes 88 size → InAnnotations bytes (IndexOf pair size)
  PairParameters : (class pair size : ℕ) → PairStands bytes class 2 pair → HasSize bytes 88 size → InAnnotations bytes (IndexOf pair size)
  RefsCount : (at : ℕ) → HasRefs bytes at → InAnnotations bytes (Bytes at 4)
  RefsWhole : (at count : ℕ) → HasRefs bytes at → Is32 bytes at count → InAnnotations bytes (Bytes at (4 + 4 * count))
  SetCount : (at : ℕ) → HasSet bytes at → InAnnotations bytes (Bytes at 4)
  SetWhole : (at count : ℕ) → HasSet bytes at → Is32 bytes at count → InAnnotations bytes (Bytes at (4 + 4 * count))
  MarkHead : (at : ℕ) → HasMark bytes at → InAnnotations bytes (Bytes at 1)

-- an annotation without its visibility: a mark's, or that of a value which lies so deep
pub data HasNote (bytes : List ℕ) (at : ℕ) : Type 0 where
  OfMark : (mark : ℕ) → HasMark bytes mark → at ≡ mark + 1 → HasNote bytes at
  OfValue : (depth value : ℕ) → HasValue bytes depth value → HasTag bytes value → tag_at bytes value ≡ 29 → at ≡ value + 1 → HasNote bytes at

pub data InValues (bytes : List ℕ) : Part → Type 0 where
  ValueTag : (depth at : ℕ) → HasValue bytes depth at → InValues bytes (Bytes at 1)
  ValueBytes : (depth at : ℕ) → HasValue bytes depth at → HasTag bytes at → tag_at bytes at < 28 → InValues bytes (Bytes at (2 + argument_at bytes at))
  ItemCount : (depth at : ℕ) → HasValue bytes depth at → HasTag bytes at → tag_at bytes at ≡ 28 → InValues bytes (Number (at + 1))
  NoteType : (at : ℕ) → HasNote bytes at → InValues bytes (Number at)
  NoteIndex : (at size : ℕ) → HasNote bytes at → HasSize bytes 64 size → InValues bytes (NumberIndexOf at size)
  NoteCount : (at kind mid : ℕ) → HasNote bytes at → IsUlebAt bytes at (kind, mid) → InValues bytes (Number mid)
  ElementText : (at place element : ℕ) → HasNote bytes at → ElementStands bytes at place element → InValues bytes (Number element)
  ElementIndex : (at place element size : ℕ) → HasNote bytes at → ElementStands bytes at place element → HasSize bytes 56 size → InValues bytes (NumberIndexOf element size)

pub data IsPlaced (bytes : List ℕ) (part : Part) : Type 0 where
  Tables : InTables bytes part → IsPlaced bytes part
  Classes : InClasses bytes part → IsPlaced bytes part
  Annotations : InAnnotations bytes part → IsPlaced bytes part
  Values : InValues bytes part → IsPlaced bytes part
