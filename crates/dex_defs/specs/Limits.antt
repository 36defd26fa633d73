-- The quantities that have a limit, and what is said where one is passed. Bytes are those of a rule text, a file or a script. All else is
-- counted in the bytes of a file one by one, by what is placed there: a file passes a limit where it has one thing more, each told apart
-- by the numbers that name it, so that what is shared counts each time. The number that is said is always the limit and 1.
use Rattle.std.specs.Prelude.{◌≡◌, ◌+◌, ◌<◌, ◌≤◌, ℕ, List, [], ◌∷◌, length, slice_index, Contains, Some, None, true, false, ◌==◌}
use Rattle.std.specs.List.{All}
use Rattle.dex_base.specs.Word.{Is32}
use Rattle.dex_base.specs.Leb.{IsUlebAt}
use Rattle.line_tables.specs.Entries.{item_lines}
use Rattle.code_read.specs.declared.fields.Fields.{Fields}
use Rattle.program_model.specs.declared.limits.Counted.{Counted}
use Rattle.program_model.specs.declared.limits.Counted.TheVariants as counted
use Rattle.program_model.specs.declared.limits.LimitFault.{LimitFault}
use Rattle.program_model.specs.Limits.{limit_of}
use Rattle.dex_defs.specs.Values.{HasTag, tag_at}
use Rattle.dex_defs.specs.ClassDefs.{Def}
use Rattle.dex_defs.specs.ClassData.{Entry}
use Rattle.dex_defs.specs.Sweep.{Piece, IsSwept, instructions, places_of}
use Rattle.dex_defs.specs.Instructions.{opcode, has_payload, double_at, IsPayloadOf}
use Rattle.dex_defs.specs.Handlers.{Catches}
use Rattle.dex_defs.specs.CodeItems.{Frame}
use Rattle.dex_defs.specs.Places.{IsEntryAt, HasDef, Leads, HasEntry, HasDirectory, PairStands, ListedAt, HasArray, IsItemOf, ElementStands}
use Rattle.dex_defs.specs.Placed.{HasSize}
use Rattle.dex_defs.specs.CodeFaults.{HasUnits, HasInsn, HasCatches, kind_for}

-- ---- bytes

-- a rule text, a file or a script that is longer than its limit
pub record IsTooLong (kind : Counted) (bytes : List ℕ) (fault : LimitFault) : Type 0 where
  pub of_bytes : Contains (counted.RuleBytes ∷ counted.FileBytes ∷ counted.ScriptBytes ∷ []) kind
  pub past : limit_of kind < length bytes
  pub is_kind : fault.counted ≡ kind
  pub number : fault.number ≡ limit_of kind + 1

-- ---- code

-- the code of the method at this place of a class's list of this number, swept
pub record IsMethodCode (bytes : List ℕ) (class which place at : ℕ) (f : Frame) (pieces : List Piece) : Type 0 where
  pub entry : Entry
  pub method : 2 ≤ which
  pub has : HasEntry bytes class which place entry
  pub leads : Leads entry.code at
  pub units : List ℕ
  pub are : HasUnits bytes at f units
  pub swept : IsSwept units pieces

-- how many entries the table has that the instruction at this position names: a switch's targets, or an array's items
pub record HasEntries (units : List ℕ) (pieces : List Piece) (position count : ℕ) : Type 0 where
  pub p : Piece
  pub f : Fields
  pub is : HasInsn pieces position p f
  pub names : has_payload (opcode p) ≡ true
  pub unit : ℕ
  pub payload : IsPayloadOf (places_of units pieces) p.start f (kind_for (opcode p)) unit
  pub size : count ≡ elim (opcode p == 0x26) [ true ↦ double_at units (unit + 2) | false ↦ slice_index units (unit + 1) ]

-- a cell for each register of each position and one more, and one for each entry of a table
pub data IsCell (bytes : List ℕ) : List ℕ → Type 0 where
  OfPosition : (class which place at position register : ℕ) (f : Frame) (pieces : List Piece) → IsMethodCode bytes class which place at f pieces → position < length (instructions pieces) → register ≤ f.registers
      → IsCell bytes (class ∷ which ∷ place ∷ 0 ∷ position ∷ register ∷ [])
  OfTable : (class which place at position count i : ℕ) (f : Frame) (pieces : List Piece) (code : IsMethodCode bytes class which place at f pieces) → HasEntries code.units pieces position count → i < count
      → IsCell bytes (class ∷ which ∷ place ∷ 1 ∷ position ∷ i ∷ [])

-- how many handlers a list has, the catch-all counted
abbrev pub handlers_in : Catches → ℕ
handlers_in c = length c.pairs + elim c.rest [ None ↦ 0 | Some unit ↦ 1 ]

-- ---- annotations and values, by the numbers that name them

-- the list of the sets of a method's parameters: a class, and the number of a pair of its directory
pub data RefsBy (bytes : List ℕ) : List ℕ → ℕ → Type 0 where
  Pair : (class pair offset at : ℕ) (stands : PairStands bytes class 2 pair) → Is32 bytes (pair + 4) offset → Leads offset at → RefsBy bytes (class ∷ stands.i ∷ []) at

-- a set: that of a class, that of a pair, or that of a parameter
pub data SetBy (bytes : List ℕ) : List ℕ → ℕ → Type 0 where
  OfClass : (class directory offset at : ℕ) → HasDirectory bytes class directory → Is32 bytes directory offset → Leads offset at → SetBy bytes (class ∷ []) at
  OfMember : (class which pair offset at : ℕ) (stands : PairStands bytes class which pair) → which < 2 → Is32 bytes (pair + 4) offset → Leads offset at → SetBy bytes (class ∷ stands.i ∷ []) at
  OfParameter : (way : List ℕ) (refs i offset at : ℕ) → RefsBy bytes way refs → ListedAt bytes refs i offset → Leads offset at → SetBy bytes (i ∷ way) at

-- a value: a first value, one of an annotation of a set, or one that lies in another value
pub data ValueBy (bytes : List ℕ) : List ℕ → ℕ → Type 0 where
  First : (class array i at : ℕ) → HasArray bytes class array → IsItemOf bytes array i at → ValueBy bytes (0 ∷ i ∷ class ∷ []) at
  OfMark : (way : List ℕ) (set i mark k element name at : ℕ) → SetBy bytes way set → ListedAt bytes set i mark → ElementStands bytes (mark + 1) k element → IsUlebAt bytes element (name, at) → ValueBy bytes (1 ∷ k ∷ i ∷ way) at
  InArray : (way : List ℕ) (outer i at : ℕ) → ValueBy bytes way outer → HasTag bytes outer → tag_at bytes outer ≡ 28 → IsItemOf bytes (outer + 1) i at → ValueBy bytes (2 ∷ i ∷ way) at
  InNote : (way : List ℕ) (outer k element name at : ℕ) → ValueBy bytes way outer → HasTag bytes outer → tag_at bytes outer ≡ 29 → ElementStands bytes (outer + 1) k element → IsUlebAt bytes element (name, at) → ValueBy bytes (3 ∷ k ∷ way) at

-- an annotation without its visibility
pub data NoteBy (bytes : List ℕ) : List ℕ → ℕ → Type 0 where
  OfSet : (way : List ℕ) (set i mark : ℕ) → SetBy bytes way set → ListedAt bytes set i mark → NoteBy bytes (0 ∷ i ∷ way) (mark + 1)
  OfValue : (way : List ℕ) (at : ℕ) → ValueBy bytes way at → HasTag bytes at → tag_at bytes at ≡ 29 → NoteBy bytes (1 ∷ way) (at + 1)

-- ---- items: entries of lists. The first values of a class are as many as their count says; it is taken before they are read.

pub data IsItem (bytes : List ℕ) : List ℕ → Type 0 where
  OfProto : (proto entry offset at count i : ℕ) → IsEntryAt bytes 72 12 proto entry → Is32 bytes (entry + 8) offset → Leads offset at → Is32 bytes at count → i < count → IsItem bytes (0 ∷ proto ∷ i ∷ [])
  OfInterfaces : (class at count i : ℕ) (def : Def) → HasDef bytes class def → Leads def.interfaces at → Is32 bytes at count → i < count → IsItem bytes (1 ∷ class ∷ i ∷ [])
  OfSet : (way : List ℕ) (at count i : ℕ) → SetBy bytes way at → Is32 bytes at count → i < count → IsItem bytes (2 ∷ i ∷ way)
  OfRefs : (way : List ℕ) (at count i : ℕ) → RefsBy bytes way at → Is32 bytes at count → i < count → IsItem bytes (3 ∷ i ∷ way)
  OfFirsts : (class array count begin i : ℕ) → HasArray bytes class array → IsUlebAt bytes array (count, begin) → i < count → IsItem bytes (4 ∷ i ∷ 0 ∷ class ∷ [])
  OfArray : (way : List ℕ) (outer i at : ℕ) → ValueBy bytes way outer → HasTag bytes outer → tag_at bytes outer ≡ 28 → IsItemOf bytes (outer + 1) i at → IsItem bytes (4 ∷ i ∷ 1 ∷ way)
  OfNote : (way : List ℕ) (note k at : ℕ) → NoteBy bytes way note → ElementStands bytes note k at → IsItem bytes (5 ∷ k ∷ way)
  OfLines : (class which place at i : ℕ) (f : Frame) (pieces : List Piece) (code : IsMethodCode bytes class which place at f pieces) → 0 < f.debug → i < (item_lines bytes f.debug (places_of code.units pieces).starts (length bytes)).1
      → IsItem bytes (6 ∷ class ∷ which ∷ place ∷ i ∷ [])
  OfHandlers : (class which place at i : ℕ) (f : Frame) (pieces : List Piece) (c : Catches) (code : IsMethodCode bytes class which place at f pieces) (has : HasCatches bytes at f (places_of code.units pieces) c) → i < handlers_in c
      → IsItem bytes (7 ∷ class ∷ which ∷ place ∷ has.place ∷ i ∷ [])

-- ---- all of them

-- a thing of a kind that is counted, by the numbers that name it; of tables by the sizes that the header says
pub data Counts (bytes : List ℕ) : Counted → List ℕ → Type 0 where
  ACell : (way : List ℕ) → IsCell bytes way → Counts bytes counted.Cells way
  AType : (i size : ℕ) → HasSize bytes 64 size → i < size → Counts bytes counted.Types (i ∷ [])
  AProto : (i size : ℕ) → HasSize bytes 72 size → i < size → Counts bytes counted.Protos (i ∷ [])
  AField : (i size : ℕ) → HasSize bytes 80 size → i < size → Counts bytes counted.Fields (i ∷ [])
  AMethod : (i size : ℕ) → HasSize bytes 88 size → i < size → Counts bytes counted.Methods (i ∷ [])
  AUnit : (string entry offset units begin i : ℕ) → IsEntryAt bytes 56 4 string entry → Is32 bytes entry offset → IsUlebAt bytes offset (units, begin) → i < units → Counts bytes counted.TextUnits (string ∷ i ∷ [])
  AnItem : (way : List ℕ) → IsItem bytes way → Counts bytes counted.Items way

abbrev pub AllDiffer : List (List ℕ) → Type 0
AllDiffer [] = Unit {0}
AllDiffer (x ∷ xs) = (Contains xs x → ⊥) × AllDiffer xs

-- the file has one thing more of the kind than the limit
pub record IsPast (bytes : List ℕ) (fault : LimitFault) : Type 0 where
  pub things : List (List ℕ)
  pub differ : AllDiffer things
  pub are : All (Counts bytes fault.counted) things
  pub many : length things ≡ fault.number
  pub number : fault.number ≡ limit_of fault.counted + 1
