-- What is wrong with classes, members and their code, and the whole of the faults.
use Rattle.std.specs.Prelude.{◌≡◌, ◌+◌, ◌*◌, ◌<◌, ◌≤◌, ℕ, zero, suc, List, sum_by, codes, Bool, true, false, not, ◌||◌, ◌==◌, bit_and, min, if◌then◌else◌}
use Rattle.dex_base.specs.Word.{Is16, Is32}
use Rattle.dex_base.specs.Leb.{IsUlebAt}
use Rattle.program_model.specs.Texts.{first_unit, is_wide}
use Rattle.program_model.specs.declared.program.Program.{Program}
use Rattle.code_read.specs.declared.fault.CodeFault.{CodeFault}
use Rattle.code_read.specs.declared.sizes.Sizes.{Sizes}
use Rattle.dex_defs.specs.Parts.{Fault, Index, Code, Member, Root, FrameSize, Cycle, Twice, SplitOverride, IllTyped, Part, IsBad}
use Rattle.dex_defs.specs.Places.{IsEntryAt, HasDef, Leads, EntryStands, HasEntry, HasFrame, PairStands}
use Rattle.dex_defs.specs.Placed.{HasSize, IsPlaced}
use Rattle.dex_defs.specs.Faults.{InHeader, InPools, OutOfOrder, InValues, HasText, HasTypeText, HasLetter, HasProto, IsPairOf}
use Rattle.dex_defs.specs.ClassDefs.{Def, none}
use Rattle.dex_defs.specs.ClassData.{Entry}
use Rattle.dex_defs.specs.CodeItems.{Frame}
use Rattle.dex_defs.specs.CodeFaults.{BadCode as BadCodeItem}
use Rattle.dex_defs.specs.Spells.{Spells}
use Rattle.dex_defs.specs.ClassGraph.{IsTwice, IsCycle, IsSplit}

abbrev pub has_bit : ℕ → ℕ → Bool
has_bit flags bit = bit_and flags bit == bit

-- abstract or native
abbrev pub lacks_code : ℕ → Bool
lacks_code flags = has_bit flags 1024 || has_bit flags 256

-- where the id of a member stands: of a field in lists 0 and 1, of a method in lists 2 and 3
abbrev pub IsIdAt : List ℕ → ℕ → ℕ → ℕ → Type 0
IsIdAt bytes zero number at = IsEntryAt bytes 80 8 number at
IsIdAt bytes (suc zero) number at = IsEntryAt bytes 80 8 number at
IsIdAt bytes (suc (suc which)) number at = IsEntryAt bytes 88 8 number at

-- a member stands in this list: static and instance fields, direct and virtual methods. Direct is what is static, private or named
-- with a leading <.
abbrev pub suits_list : ℕ → ℕ → ℕ → Bool
suits_list zero flags first = has_bit flags 8
suits_list (suc zero) flags first = not (has_bit flags 8)
suits_list (suc (suc zero)) flags first = has_bit flags 8 || (has_bit flags 2 || first == 60)
suits_list (suc (suc (suc which))) flags first = not (has_bit flags 8 || (has_bit flags 2 || first == 60))

-- the list before one of its kind
abbrev pub IsPartner : ℕ → ℕ → Type 0
IsPartner which other = (which ≡ suc other) × ((other ≡ 0 → ⊥) → other ≡ 2)

-- no entry of the class's lists of that kind has this number: pairs 0 name fields, 1 and 2 methods
abbrev pub IsOfKind : ℕ → ℕ → Type 0
IsOfKind zero which = which < 2
IsOfKind (suc pairs) which = 2 ≤ which

-- where the header has the size of the table of a list's members
abbrev pub IsTableOf : ℕ → ℕ → Type 0
IsTableOf zero header = header ≡ 80
IsTableOf (suc zero) header = header ≡ 80
IsTableOf (suc (suc which)) header = header ≡ 88

pub data InMembers (bytes : List ℕ) (f : Fault) : Type 0 where
  -- (differences may add up to more than 32 bits hold: then the fault names the greatest number that they do)
  NoMember : (class data_at which place before at step mid header size : ℕ) (def : Def) → HasDef bytes class def → Leads def.data_at data_at → EntryStands bytes data_at which place before at → IsUlebAt bytes at (step, mid)
      → IsTableOf which header → HasSize bytes header size → size ≤ before + step → f ≡ Index at (min (before + step) 4294967295) size → InMembers bytes f
  OtherClass : (class which place at owner : ℕ) (def : Def) (e : Entry) → HasDef bytes class def → HasEntry bytes class which place e → IsIdAt bytes which e.number at → Is16 bytes at owner → (owner ≡ def.name → ⊥) → f ≡ Member class place → InMembers bytes f
  NotDefined : (class pairs place pair first number : ℕ) → PairStands bytes class pairs pair → IsPairOf bytes class pairs first → pair ≡ first + 8 * place → Is32 bytes pair number
      → ((which at : ℕ) (e : Entry) → IsOfKind pairs which → HasEntry bytes class which at e → e.number ≡ number → ⊥) → f ≡ Member class place → InMembers bytes f
  NoCode : (class which place : ℕ) (e : Entry) → HasEntry bytes class which place e → 2 ≤ which → lacks_code e.flags ≡ false → e.code ≡ 0 → f ≡ Member class place → InMembers bytes f
  SomeCode : (class which place : ℕ) (e : Entry) → HasEntry bytes class which place e → 2 ≤ which → lacks_code e.flags ≡ true → 0 < e.code → f ≡ Member class place → InMembers bytes f
  InBoth : (class which other place at : ℕ) (e d : Entry) → IsPartner which other → HasEntry bytes class which place e → HasEntry bytes class other at d → e.number ≡ d.number → f ≡ Member class place → InMembers bytes f
  WrongField : (class which place : ℕ) (e : Entry) → HasEntry bytes class which place e → which < 2 → suits_list which e.flags 0 ≡ false → f ≡ Member class place → InMembers bytes f
  WrongMethod : (class which place at string begin : ℕ) (name : List ℕ) (e : Entry) → HasEntry bytes class which place e → 2 ≤ which → IsIdAt bytes which e.number at → Is32 bytes (at + 4) string → HasText bytes string name begin
      → suits_list which e.flags (first_unit name) ≡ false → f ≡ Member class place → InMembers bytes f

-- a class of the file that is no interface defines the type
pub record IsPlainType (bytes : List ℕ) (kind : ℕ) : Type 0 where
  pub class : ℕ
  pub def : Def
  pub has : HasDef bytes class def
  pub defines : def.name ≡ kind
  pub plain : has_bit def.flags 512 ≡ false

pub data InRoots (bytes : List ℕ) (f : Fault) : Type 0 where
  IsObject : (class begin : ℕ) (def : Def) → HasDef bytes class def → HasTypeText bytes def.name (codes "Ljava/lang/Object;") begin → f ≡ Root class → InRoots bytes f
  NoSuperclass : (class : ℕ) (def : Def) → HasDef bytes class def → def.superclass ≡ none → f ≡ Root class → InRoots bytes f
  OwnType : (class letter : ℕ) (def : Def) → HasDef bytes class def → HasLetter bytes def.name letter → (letter ≡ 76 → ⊥) → f ≡ Root class → InRoots bytes f
  Above : (class letter : ℕ) (def : Def) → HasDef bytes class def → HasLetter bytes def.superclass letter → (letter ≡ 76 → ⊥) → f ≡ Root class → InRoots bytes f
  Interface : (class letter at i kind count : ℕ) (def : Def) → HasDef bytes class def → Leads def.interfaces at → Is32 bytes at count → i < count → Is16 bytes (at + 4 + 2 * i) kind → HasLetter bytes kind letter → (letter ≡ 76 → ⊥) → f ≡ Root class → InRoots bytes f
  -- the superclass of an interface, and an interface of its list, is a class of the file that is no interface
  OnPlain : (class : ℕ) (def : Def) → HasDef bytes class def → has_bit def.flags 512 ≡ true → IsPlainType bytes def.superclass → f ≡ Root class → InRoots bytes f
  ListsPlain : (class at i kind count : ℕ) (def : Def) → HasDef bytes class def → has_bit def.flags 512 ≡ true → Leads def.interfaces at → Is32 bytes at count → i < count → Is16 bytes (at + 4 + 2 * i) kind → IsPlainType bytes kind → f ≡ Root class → InRoots bytes f

-- the registers of a receiver and of parameters
abbrev pub words_of : List ℕ → ℕ
words_of text = if is_wide (first_unit text) then 2 else 1

abbrev pub frame_words : ℕ → List (List ℕ) → ℕ
frame_words flags parameters = (if has_bit flags 8 then 0 else 1) + sum_by words_of parameters

-- the parameters of a method
pub record HasParameters (bytes : List ℕ) (method : ℕ) (parameters : List (List ℕ)) : Type 0 where
  pub at : ℕ
  pub id : IsEntryAt bytes 88 8 method at
  pub proto : ℕ
  pub is_proto : Is16 bytes (at + 2) proto
  pub entry : ℕ
  pub stands : IsEntryAt bytes 72 12 proto entry
  pub result : List ℕ
  pub has : HasProto bytes entry result parameters

-- how many entries the tables have that code names
pub record AreSizes (bytes : List ℕ) (f : Frame) (sizes : Sizes) : Type 0 where
  pub registers : sizes.registers ≡ f.registers
  pub ins : sizes.ins ≡ f.ins
  pub tries : sizes.tries ≡ f.tries
  pub strings : HasSize bytes 56 sizes.strings
  pub types : HasSize bytes 64 sizes.types
  pub fields : HasSize bytes 80 sizes.fields
  pub methods : HasSize bytes 88 sizes.methods

pub data InCode (bytes : List ℕ) (f : Fault) : Type 0 where
  FewRegisters : (class at : ℕ) (e : Entry) (frame : Frame) → HasFrame bytes class e at frame → frame.registers < frame.ins → f ≡ FrameSize e.number → InCode bytes f
  OtherWords : (class at : ℕ) (e : Entry) (frame : Frame) (parameters : List (List ℕ)) → HasFrame bytes class e at frame → HasParameters bytes e.number parameters → (frame.ins ≡ frame_words e.flags parameters → ⊥) → f ≡ FrameSize e.number → InCode bytes f
  InBody : (class at : ℕ) (e : Entry) (frame : Frame) (sizes : Sizes) (fault : CodeFault) → HasFrame bytes class e at frame → AreSizes bytes frame sizes → BadCodeItem bytes sizes at fault → f ≡ Code e.number fault → InCode bytes f

-- of the program that the bytes spell
pub data InGraph (p : Program) (f : Fault) : Type 0 where
  DefinedTwice : (class : ℕ) → IsTwice p class → f ≡ Twice class → InGraph p f
  OwnAncestor : (class : ℕ) → IsCycle p class → f ≡ Cycle class → InGraph p f
  Split : (class method : ℕ) → IsSplit p class method → f ≡ SplitOverride class method → InGraph p f

-- A placed part is bad, or what the parts say doesn't fit together.
pub data HasFault (bytes : List ℕ) (f : Fault) : Type 0 where
  BadPart : (part : Part) → IsPlaced bytes part → IsBad bytes part f → HasFault bytes f
  BadHeader : InHeader bytes f → HasFault bytes f
  BadPools : InPools bytes f → HasFault bytes f
  BadOrder : OutOfOrder bytes f → HasFault bytes f
  BadValues : InValues bytes f → HasFault bytes f
  BadMember : InMembers bytes f → HasFault bytes f
  BadRoot : InRoots bytes f → HasFault bytes f
  BadCode : InCode bytes f → HasFault bytes f
  BadGraph : (p : Program) → Spells bytes p → InGraph p f → HasFault bytes f

-- These and the ill typed methods, by a definition of typing that stands above this crate: of which programs, methods, positions and
-- registers that flow breaks.
pub data HasFaultBy (Breaks : Program → ℕ → ℕ → ℕ → Type 0) (bytes : List ℕ) (f : Fault) : Type 0 where
  OfFile : HasFault bytes f → HasFaultBy Breaks bytes f
  OfTypes : (p : Program) (method position register : ℕ) → Spells bytes p → Breaks p method position register → f ≡ IllTyped method position register → HasFaultBy Breaks bytes f
