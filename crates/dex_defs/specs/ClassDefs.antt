-- Classes (Dalvik executable format, "class_def_item").
use Rattle.std.specs.Prelude.{◌≡◌, ◌+◌, ◌<◌, ℕ, zero, suc, List, [], ◌∷◌, ◌++◌, length, Option, Some, None, true, false, nat_eq}
use Rattle.std.specs.List.{All, list_any}
use Rattle.dex_base.specs.Word.{Is32}
use Rattle.program_model.specs.declared.body.Body.{Body}
use Rattle.program_model.specs.declared.program.Field.{Field}
use Rattle.program_model.specs.declared.program.Method.{Method}
use Rattle.program_model.specs.declared.program.Class.{Class}
use Rattle.program_model.specs.declared.program.Program.{Program}
use Rattle.program_model.specs.declared.value.EncValue.{EncValue}
use Rattle.dex_pools.specs.declared.scalar.TableSizes.{TableSizes}
use Rattle.program_model.specs.MemberRules.{is_static, is_direct}
use Rattle.dex_pools.specs.Spelled.{AreParameters}
use Rattle.dex_defs.specs.Values.{AreValuesOf, AreFirsts}
use Rattle.dex_defs.specs.Annotations.{Directory, InOrder, IsDirectoryOf, offset_for, AreMarksOf, AreParameterMarksOf}
use Rattle.dex_defs.specs.ClassData.{Entry, Lists, IsClassDataOf}
use Rattle.dex_defs.specs.Sweep.{Places}
use Rattle.dex_defs.specs.CodeItems.{Frame, IsCode}
use Rattle.dex_defs.specs.DebugItems.{lines_of}

-- ---- members

pub record IsField (bytes : List ℕ) (sizes : TableSizes) (d : Directory) (e : Entry) (f : Field) : Type 0 where
  pub number : f.name ≡ e.number
  pub flags : f.flags.0 ≡ e.flags
  pub marks : AreMarksOf bytes sizes (offset_for e.number d.fields) f.marks

abbrev pub AreFields : List ℕ → TableSizes → Directory → List Entry → List Field → Type 0
AreFields bytes sizes d [] [] = Unit {0}
AreFields bytes sizes d [] (f ∷ fs) = ⊥
AreFields bytes sizes d (e ∷ es) [] = ⊥
AreFields bytes sizes d (e ∷ es) (f ∷ fs) = IsField bytes sizes d e f × AreFields bytes sizes d es fs

-- the code at an offset, and the lines of its debug item; the offset 0 stands for neither
pub record IsCodeOf (bytes : List ℕ) (types at : ℕ) (body : Body) (lines : List ℕ) : Type 0 where
  pub frame : Frame
  pub places : Places
  pub code : IsCode bytes types at frame places body
  pub are_lines : lines ≡ lines_of bytes frame.debug places.starts

abbrev pub HasCode : List ℕ → ℕ → ℕ → Option Body → List ℕ → Type 0
HasCode bytes types zero None lines = lines ≡ []
HasCode bytes types zero (Some body) lines = ⊥
HasCode bytes types (suc k) None lines = ⊥
HasCode bytes types (suc k) (Some body) lines = IsCodeOf bytes types (suc k) body lines

pub record IsMethod (bytes : List ℕ) (sizes : TableSizes) (types : ℕ) (d : Directory) (e : Entry) (m : Method) : Type 0 where
  pub number : m.name ≡ e.number
  pub flags : m.flags.0 ≡ e.flags
  pub marks : AreMarksOf bytes sizes (offset_for e.number d.methods) m.marks
  pub parameter_marks : AreParameterMarksOf bytes sizes (offset_for e.number d.parameters) m.parameter_marks
  pub code : HasCode bytes types e.code m.body m.lines

abbrev pub AreMethods : List ℕ → TableSizes → ℕ → Directory → List Entry → List Method → Type 0
AreMethods bytes sizes types d [] [] = Unit {0}
AreMethods bytes sizes types d [] (m ∷ ms) = ⊥
AreMethods bytes sizes types d (e ∷ es) [] = ⊥
AreMethods bytes sizes types d (e ∷ es) (m ∷ ms) = IsMethod bytes sizes types d e m × AreMethods bytes sizes types d es ms

-- ---- the class_def

-- the eight numbers of a class_def; ffffffff stands for no superclass and no source
pub record Def : Type 0 where
  pub name : ℕ
  pub flags : ℕ
  pub superclass : ℕ
  pub interfaces : ℕ
  pub source : ℕ
  pub annotations : ℕ
  pub data_at : ℕ
  pub values : ℕ

pub record IsDef (bytes : List ℕ) (at : ℕ) (d : Def) : Type 0 where
  pub name : Is32 bytes at d.name
  pub flags : Is32 bytes (at + 4) d.flags
  pub superclass : Is32 bytes (at + 8) d.superclass
  pub interfaces : Is32 bytes (at + 12) d.interfaces
  pub source : Is32 bytes (at + 16) d.source
  pub annotations : Is32 bytes (at + 20) d.annotations
  pub data_at : Is32 bytes (at + 24) d.data_at
  pub values : Is32 bytes (at + 28) d.values

abbrev pub none : ℕ
none = 4294967295

abbrev pub IsSource : ℕ → ℕ → Option ℕ → Type 0
IsSource strings number None = number ≡ none
IsSource strings number (Some string) = (number ≡ string) × (string < strings)

-- a member that the class data defines
abbrev pub IsDefined : List Entry → ℕ × ℕ → Type 0
IsDefined entries pair = list_any (λ e. nat_eq e.number pair.0) entries ≡ true

-- the directory, whose lists ascend and name defined members alone, and the member lists that a class_def names
pub record HasParts (bytes : List ℕ) (def : Def) (directory : Directory) (lists : Lists) : Type 0 where
  pub directory_is : IsDirectoryOf bytes def.annotations directory
  pub lists_are : IsClassDataOf bytes def.data_at lists
  pub in_order : InOrder directory
  pub fields : All (IsDefined (lists.statics ++ lists.instances)) directory.fields
  pub methods : All (IsDefined (lists.directs ++ lists.virtuals)) directory.methods
  pub parameters : All (IsDefined (lists.directs ++ lists.virtuals)) directory.parameters

-- the class of the class_def at this place, of a program with these tables
pub record IsClass (bytes : List ℕ) (p : Program) (sizes : TableSizes) (at : ℕ) (c : Class) : Type 0 where
  pub def : Def
  pub directory : Directory
  pub lists : Lists
  pub is_def : IsDef bytes at def
  pub parts : HasParts bytes def directory lists
  pub name : c.name ≡ def.name
  pub is_type : def.name < length p.types
  pub flags : c.flags.0 ≡ def.flags
  pub superclass : c.superclass ≡ def.superclass
  pub above : def.superclass < length p.types
  pub interfaces : AreParameters bytes (length p.types) def.interfaces c.interfaces
  pub source : IsSource (length p.strings) def.source c.source
  pub marks : AreMarksOf bytes sizes directory.class c.marks
  pub statics : List Field
  pub instances : List Field
  pub fields : c.fields ≡ statics ++ instances
  pub are_statics : AreFields bytes sizes directory lists.statics statics
  pub are_instances : AreFields bytes sizes directory lists.instances instances
  pub values : List EncValue
  pub are_values : AreValuesOf bytes sizes def.values values
  pub firsts : AreFirsts p values statics
  pub none_first : AreFirsts p [] instances
  pub static : All (λ f. is_static f.flags ≡ true) statics
  pub of_instance : All (λ f. is_static f.flags ≡ false) instances
  pub directs : List Method
  pub virtuals : List Method
  pub methods : c.methods ≡ directs ++ virtuals
  pub are_directs : AreMethods bytes sizes (length p.types) directory lists.directs directs
  pub are_virtuals : AreMethods bytes sizes (length p.types) directory lists.virtuals virtuals
  pub direct : All (λ m. is_direct p m ≡ true) directs
  pub virtual : All (λ m. is_direct p m ≡ false) virtuals
