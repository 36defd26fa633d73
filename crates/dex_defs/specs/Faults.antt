-- Which faults stand in the bytes of a file. A part or an item is judged where it is placed, whatever else is wrong; several faults
-- may stand in one file.
use Rattle.std.specs.Prelude.{◌≡◌, ◌+◌, ◌*◌, ◌<◌, ◌≤◌, ℕ, zero, suc, List, [], ◌∷◌, length, take, drop, map, slice_get, false, ◌==◌, Some, if◌then◌else◌}
use Rattle.std.specs.Int.{w32, from_le_bytes}
use Rattle.std.specs.List.{flat_map}
use Rattle.dex_base.specs.declared.fault.BaseFault.TheVariants as base
use Rattle.dex_base.specs.Adler.{adler_of}
use Rattle.dex_base.specs.Word.{Is16, Is32}
use Rattle.dex_base.specs.Leb.{IsUlebAt}
use Rattle.dex_base.specs.Mutf8.{IsTextAt, unit_bytes}
use Rattle.dex_base.specs.Grammar.{BadDescriptorIn}
use Rattle.program_model.specs.Texts.{first_unit}
use Rattle.program_model.specs.declared.program.Version.{Version}
use Rattle.dex_pools.specs.declared.fault.Table.TheVariants as table
use Rattle.dex_pools.specs.Order.{list_below, three_below}
use Rattle.dex_pools.specs.Spelled.{AreParameters}
use Rattle.dex_pools.specs.Value.{most_argument, is_within}
use Rattle.dex_defs.specs.Header.{magic_of}
use Rattle.dex_defs.specs.Parts.{Fault, Magic, Header, Checksum, BadDescriptor, Index, Order, BadValue, Deep, Shorty}
use Rattle.dex_defs.specs.Places.{IsEntryAt, HasDef, Leads, EntryStands, HasEntry, HasDirectory, DirectoryCounts, PairStands, ListedAt, HasSet, HasArray, HasValue, IsItemOf, ElementStands}
use Rattle.dex_defs.specs.Placed.{HasSize, HasNote}
use Rattle.dex_defs.specs.Values.{HasTag, tag_at, argument_at, suits}
use Rattle.dex_defs.specs.ClassDefs.{Def}
use Rattle.dex_defs.specs.ClassData.{Entry}

-- ---- the header

pub data IsFixed (bytes : List ℕ) (at want : ℕ) : Type 0 where
  FileSize : at ≡ 32 → want ≡ length bytes → IsFixed bytes at want
  HeaderSize : at ≡ 36 → want ≡ 112 → IsFixed bytes at want
  EndianTag : at ≡ 40 → want ≡ 0x12345678 → IsFixed bytes at want
  LinkSize : at ≡ 44 → want ≡ 0 → IsFixed bytes at want

pub data InHeader (bytes : List ℕ) (f : Fault) : Type 0 where
  BadMagic : 112 ≤ length bytes → ((version : Version) → take 8 bytes ≡ magic_of version → ⊥) → f ≡ Magic → InHeader bytes f
  BadField : (at want n : ℕ) → 112 ≤ length bytes → IsFixed bytes at want → Is32 bytes at n → (n ≡ want → ⊥) → f ≡ Header at → InHeader bytes f
  BadSum : (stored : ℕ) → Is32 bytes 8 stored → (stored ≡ adler_of (drop 12 bytes) → ⊥) → f ≡ Checksum stored (adler_of (drop 12 bytes)) → InHeader bytes f

-- ---- texts by their numbers

-- the string of this number, and where its units begin
pub record HasText (bytes : List ℕ) (string : ℕ) (text : List ℕ) (begin : ℕ) : Type 0 where
  pub entry : ℕ
  pub offset : ℕ
  pub units : ℕ
  pub stop : ℕ
  pub stands : IsEntryAt bytes 56 4 string entry
  pub is_offset : Is32 bytes entry offset
  pub counted : IsUlebAt bytes offset (units, begin)
  pub is_text : IsTextAt bytes begin units (text, stop)

-- the descriptor of the type of this number
pub record HasTypeText (bytes : List ℕ) (kind : ℕ) (text : List ℕ) (begin : ℕ) : Type 0 where
  pub entry : ℕ
  pub string : ℕ
  pub stands : IsEntryAt bytes 64 4 kind entry
  pub is_string : Is32 bytes entry string
  pub has : HasText bytes string text begin

-- the letter of a type in a shorty: L for an array
abbrev pub shorty_letter : List ℕ → ℕ
shorty_letter text = if first_unit text == 91 then 76 else first_unit text

pub record HasLetter (bytes : List ℕ) (kind letter : ℕ) : Type 0 where
  pub text : List ℕ
  pub begin : ℕ
  pub has : HasTypeText bytes kind text begin
  pub is : letter ≡ first_unit text

abbrev pub HaveTexts : List ℕ → List ℕ → List (List ℕ) → Type 0
HaveTexts bytes [] [] = Unit {0}
HaveTexts bytes [] (text ∷ texts) = ⊥
HaveTexts bytes (kind ∷ kinds) [] = ⊥
HaveTexts bytes (kind ∷ kinds) (text ∷ texts) = ((begin : ℕ) × HasTypeText bytes kind text begin) × HaveTexts bytes kinds texts

-- the result and the parameters of the proto at this place, as descriptors
pub record HasProto (bytes : List ℕ) (at : ℕ) (result : List ℕ) (parameters : List (List ℕ)) : Type 0 where
  pub kind : ℕ
  pub begin : ℕ
  pub is_kind : Is32 bytes (at + 4) kind
  pub is_result : HasTypeText bytes kind result begin
  pub offset : ℕ
  pub is_offset : Is32 bytes (at + 8) offset
  pub size : ℕ
  pub is_size : HasSize bytes 64 size
  pub kinds : List ℕ
  pub are_kinds : AreParameters bytes size offset kinds
  pub texts : HaveTexts bytes kinds parameters

-- ---- descriptors, protos and tables

pub data InPools (bytes : List ℕ) (f : Fault) : Type 0 where
  Descriptor : (kind begin unit : ℕ) (text : List ℕ) → HasTypeText bytes kind text begin → BadDescriptorIn text (base.BadDescriptor unit) → f ≡ BadDescriptor (begin + length (flat_map unit_bytes (take unit text))) → InPools bytes f
  VoidField : (i entry kind : ℕ) → IsEntryAt bytes 80 8 i entry → Is16 bytes (entry + 2) kind → HasLetter bytes kind 86 → f ≡ BadDescriptor entry → InPools bytes f
  OtherShorty : (i entry string begin : ℕ) (shorty result : List ℕ) (parameters : List (List ℕ)) → IsEntryAt bytes 72 12 i entry → Is32 bytes entry string → HasText bytes string shorty begin → HasProto bytes entry result parameters
      → (shorty ≡ shorty_letter result ∷ map shorty_letter parameters → ⊥) → f ≡ Shorty entry → InPools bytes f
  VoidParameter : (i entry k : ℕ) (result text : List ℕ) (parameters : List (List ℕ)) → IsEntryAt bytes 72 12 i entry → HasProto bytes entry result parameters → slice_get parameters k ≡ Some text → first_unit text ≡ 86 → f ≡ Shorty entry → InPools bytes f

-- the three numbers of a field_id or a method_id in the order of its table: class, name, and type or proto
pub record HasThree (bytes : List ℕ) (at class name other : ℕ) : Type 0 where
  pub is_class : Is16 bytes at class
  pub is_other : Is16 bytes (at + 2) other
  pub is_name : Is32 bytes (at + 4) name

-- the result's and the parameters' types of a proto
pub record HasKinds (bytes : List ℕ) (at result : ℕ) (parameters : List ℕ) : Type 0 where
  pub is_result : Is32 bytes (at + 4) result
  pub offset : ℕ
  pub is_offset : Is32 bytes (at + 8) offset
  pub size : ℕ
  pub is_size : HasSize bytes 64 size
  pub are : AreParameters bytes size offset parameters

abbrev pub pairs_before : ℕ → ℕ → ℕ → ℕ
pairs_before zero fields methods = 0
pairs_before (suc zero) fields methods = fields
pairs_before (suc (suc which)) fields methods = fields + methods

-- where the first pair of a directory's list would begin
abbrev pub IsPairOf : List ℕ → ℕ → ℕ → ℕ → Type 0
IsPairOf bytes class which first = (directory fields methods parameters : ℕ) × HasDirectory bytes class directory × DirectoryCounts bytes directory fields methods parameters
    × (first ≡ directory + 16 + 8 * pairs_before which fields methods)

pub data OutOfOrder (bytes : List ℕ) (f : Fault) : Type 0 where
  Strings : (place a b : ℕ) (x y : List ℕ) → HasText bytes place x a → HasText bytes (suc place) y b → list_below x y ≡ false → f ≡ Order table.Strings (suc place) → OutOfOrder bytes f
  Types : (place a b x y : ℕ) → IsEntryAt bytes 64 4 place a → IsEntryAt bytes 64 4 (suc place) b → Is32 bytes a x → Is32 bytes b y → y ≤ x → f ≡ Order table.Types (suc place) → OutOfOrder bytes f
  Protos : (place a b x y : ℕ) (xs ys : List ℕ) → IsEntryAt bytes 72 12 place a → IsEntryAt bytes 72 12 (suc place) b → HasKinds bytes a x xs → HasKinds bytes b y ys → list_below (x ∷ xs) (y ∷ ys) ≡ false → f ≡ Order table.Protos (suc place) → OutOfOrder bytes f
  Fields : (place a b c n t c2 n2 t2 : ℕ) → IsEntryAt bytes 80 8 place a → IsEntryAt bytes 80 8 (suc place) b → HasThree bytes a c n t → HasThree bytes b c2 n2 t2 → three_below c n t c2 n2 t2 ≡ false → f ≡ Order table.Fields (suc place) → OutOfOrder bytes f
  Methods : (place a b c n t c2 n2 t2 : ℕ) → IsEntryAt bytes 88 8 place a → IsEntryAt bytes 88 8 (suc place) b → HasThree bytes a c n t → HasThree bytes b c2 n2 t2 → three_below c n t c2 n2 t2 ≡ false → f ≡ Order table.Methods (suc place) → OutOfOrder bytes f
  Members : (class data_at which place before at mid : ℕ) (def : Def) → HasDef bytes class def → Leads def.data_at data_at → EntryStands bytes data_at which (suc place) before at → IsUlebAt bytes at (0, mid) → f ≡ Order table.Members (suc place) → OutOfOrder bytes f
  Pairs : (class which first place a x y : ℕ) → PairStands bytes class which a → PairStands bytes class which (a + 8) → Is32 bytes a x → Is32 bytes (a + 8) y → y ≤ x → IsPairOf bytes class which first → a + 8 ≡ first + 8 * suc place → f ≡ Order table.Members (suc place) → OutOfOrder bytes f
  Marks : (set place a b x y p q : ℕ) → HasSet bytes set → ListedAt bytes set place a → ListedAt bytes set (suc place) b → IsUlebAt bytes (a + 1) (x, p) → IsUlebAt bytes (b + 1) (y, q) → y ≤ x → f ≡ Order table.Members (suc place) → OutOfOrder bytes f
  Elements : (note place a b x y p q : ℕ) → HasNote bytes note → ElementStands bytes note place a → ElementStands bytes note (suc place) b → IsUlebAt bytes a (x, p) → IsUlebAt bytes b (y, q) → y ≤ x → f ≡ Order table.Members (suc place) → OutOfOrder bytes f

-- ---- values

-- the letter of the type of the field of this number
pub record HasFieldLetter (bytes : List ℕ) (field letter : ℕ) : Type 0 where
  pub entry : ℕ
  pub kind : ℕ
  pub stands : IsEntryAt bytes 80 8 field entry
  pub is_kind : Is16 bytes (entry + 2) kind
  pub is : HasLetter bytes kind letter

-- how many static fields a class has
pub data HasStatics (bytes : List ℕ) (class count : ℕ) : Type 0 where
  NoData : (def : Def) → HasDef bytes class def → def.data_at ≡ 0 → count ≡ 0 → HasStatics bytes class count
  Counted : (def : Def) (at behind : ℕ) → HasDef bytes class def → Leads def.data_at at → IsUlebAt bytes at (count, behind) → HasStatics bytes class count

-- the table that a value of this type names an entry of, by where the header has its size
pub data NamesIn (tag header : ℕ) : Type 0 where
  AString : tag ≡ 23 → header ≡ 56 → NamesIn tag header
  AType : tag ≡ 24 → header ≡ 64 → NamesIn tag header
  AField : tag ≡ 25 → header ≡ 80 → NamesIn tag header
  AMethod : tag ≡ 26 → header ≡ 88 → NamesIn tag header
  AnEnum : tag ≡ 27 → header ≡ 80 → NamesIn tag header

-- the number in the bytes behind a value's first one
pub record NumberBehind (bytes : List ℕ) (at n : ℕ) : Type 0 where
  pub inside : at + 2 + argument_at bytes at ≤ length bytes
  pub is : n ≡ from_le_bytes w32 (take (argument_at bytes at + 1) (drop (at + 1) bytes))

pub data InValues (bytes : List ℕ) (f : Fault) : Type 0 where
  NoTag : (depth at : ℕ) → HasValue bytes depth at → at < length bytes → is_within (argument_at bytes at) (most_argument (tag_at bytes at)) ≡ false → f ≡ BadValue at → InValues bytes f
  Unfit : (class array place at letter : ℕ) (e : Entry) → HasArray bytes class array → IsItemOf bytes array place at → HasTag bytes at → HasEntry bytes class 0 place e → HasFieldLetter bytes e.number letter → suits letter (tag_at bytes at) ≡ false → f ≡ BadValue at → InValues bytes f
  Past : (class array place at count : ℕ) → HasArray bytes class array → IsItemOf bytes array place at → HasStatics bytes class count → count ≤ place → f ≡ BadValue at → InValues bytes f
  NamesNone : (depth at header n size : ℕ) → HasValue bytes depth at → HasTag bytes at → NamesIn (tag_at bytes at) header → NumberBehind bytes at n → HasSize bytes header size → size ≤ n → f ≡ Index at n size → InValues bytes f
  TooDeep : (at : ℕ) → HasValue bytes 65 at → f ≡ Deep at → InValues bytes f
