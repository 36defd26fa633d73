-- Two ways to know what the receivers of a call find: by facts of what may be in its first register, or by the class that it
-- names, where the typing asks for a receiver under it (this project's profile). Under is taken by the program's own lists.
use Rattle.std.specs.Prelude.{◌≡◌, ◌⊎◌, ℕ, true, false, List, ◌∷◌, Option, Some, None, Contains, slice_get}
use Rattle.insn_set.specs.declared.ops.InvokeKind.{InvokeKind}
use Rattle.dalvik_defs.specs.Face.{face_of, bodies_of}
use Rattle.dalvik_defs.specs.Find.{Found, Search, Nothing, Finds, finds_at}
use Rattle.dalvik_defs.specs.Names.{Text, is_class_type}
use Rattle.dalvik_defs.specs.Under.{defines, is_own_under}
use Rattle.dalvik_defs.specs.declared.state.Value.{Value}
use Rattle.dalvik_defs.specs.declared.names.MethodKey.{MethodKey}
use Rattle.dalvik_defs.specs.declared.forms.Form.{Form}
use Rattle.dalvik_defs.specs.declared.forms.Form.TheVariants as form
use Rattle.dalvik_defs.specs.declared.program.NamedBody.{NamedBody}
use Rattle.dalvik_defs.specs.declared.program.NamedClass.{NamedClass}
use Rattle.dalvik_defs.specs.declared.program.NamedProgram.{NamedProgram}
use Rattle.dalvik_defs.specs.declared.tables.Framework.{Framework}
use Rattle.domains.specs.Datum.{Object}
use Rattle.domains.specs.Values.{Parts, value_holds}
use Rattle.pass_defs.specs.Analysis.{Analysis, IsReference}
use Rattle.pass_defs.specs.Bindable.{is_virtual_call}
use Rattle.pass_defs.specs.Demands.{is_constructor_name}
use Rattle.pass_defs.specs.Facts.{Facts}
use Rattle.pass_defs.specs.Kinds.{is_plain}
use Rattle.pass_defs.specs.Walks.{form_at}

-- what a call finds at a class that stands under the one that it names
abbrev pub finds_listed : NamedProgram → Text → MethodKey → Search
finds_listed p t k = elim (is_own_under p t k.class) [ true ↦ finds_at p t k | false ↦ Nothing ]

-- objects of a class find a method by both names
pub record FindsListed (p : NamedProgram) (old new : MethodKey) (found : Found) (t : Text) : Type 0 where
  pub first : finds_listed p t old ≡ Finds found
  pub second : finds_listed p t new ≡ Finds found

-- a virtual or interface call of a class's method names another one, with the same registers
pub record Renames (f f' : Form) : Type 0 where
  pub kind : InvokeKind
  pub kind' : InvokeKind
  pub old : MethodKey
  pub new : MethodKey
  pub on : ℕ
  pub args : List ℕ
  pub first : f ≡ form.Invoke kind old (on ∷ args)
  pub second : f' ≡ form.Invoke kind' new (on ∷ args)
  pub virtual : is_virtual_call kind ≡ true
  pub virtual' : is_virtual_call kind' ≡ true
  pub old_type : is_class_type old.class ≡ true
  pub new_type : is_class_type new.class ≡ true
  pub plain_name : is_constructor_name old.name ≡ false

-- By facts: all that may be in the first register are objects of classes that find one method with code by both names.
pub record BoundByFacts {V : Type 0} (a : Analysis V) (p : NamedProgram) (t : Facts V) (k : MethodKey) (n : ℕ) (f f' : Form) : Type 0 where
  pub call : Renames f f'
  pub found : Found
  pub coded : found.coded ≡ true
  pub finds : (x : ℕ → V) (u : Text) (v : Value) → t.registers k n ≡ Some x → IsReference v → a.holds (x call.on) u v → (defines p u ≡ true) × FindsListed p call.old call.new found u

-- By the class that the call names, which is no interface: all classes under it find one method with code by both names.
pub record BoundByClass (p : NamedProgram) (f f' : Form) : Type 0 where
  pub call : Renames f f'
  pub found : Found
  pub coded : found.coded ≡ true
  pub plain : is_plain p call.old.class ≡ true
  pub finds : (u : NamedClass) → Contains p.classes u → is_own_under p u.name call.old.class ≡ true → FindsListed p call.old call.new found u.name

-- ---- bodies and programs of which some forms are others

pub record IsChanged (B : ℕ → Form → Form → Type 0) (b d : NamedBody) : Type 0 where
  pub forms : (n : ℕ) (f : Form) → form_at b n ≡ Some f → (f' : Form) × ((form_at d n ≡ Some f') × ((f' ≡ f) ⊎ B n f f'))
  pub ends : (n : ℕ) → form_at b n ≡ None → form_at d n ≡ None
  pub regions : d.regions ≡ b.regions
  pub registers : d.registers ≡ b.registers
  pub ins : d.ins ≡ b.ins

pub record AreChanged (B : MethodKey → ℕ → Form → Form → Type 0) (p q : NamedProgram) : Type 0 where
  pub face : (f : Framework) → face_of p f ≡ face_of q f
  pub none : (k : MethodKey) → bodies_of p k ≡ None → bodies_of q k ≡ None
  pub some : (k : MethodKey) (b : NamedBody) → bodies_of p k ≡ Some b → (d : NamedBody) × (bodies_of q k ≡ Some d)
  pub bodies : (k : MethodKey) (b d : NamedBody) → bodies_of p k ≡ Some b → bodies_of q k ≡ Some d → IsChanged (B k) b d

-- the code of a method of which some forms are others, where it has any
pub data ChangesCode (B : MethodKey → ℕ → Form → Form → Type 0) (k : MethodKey) : Option NamedBody → Option NamedBody → Type 0 where
  NoCode : ChangesCode B k None None
  Kept : (b : NamedBody) → ChangesCode B k (Some b) (Some b)
  Changed : (b d : NamedBody) → IsChanged (B k) b d → ChangesCode B k (Some b) (Some d)

-- ---- facts of the product domain

-- By the classes that facts list: the objects that may be in the first register are of classes at some places, which find one
-- method with code by both names.
pub record BoundByPlaces (p : NamedProgram) (t : Facts Parts) (k : MethodKey) (n : ℕ) (f f' : Form) : Type 0 where
  pub call : Renames f f'
  pub found : Found
  pub coded : found.coded ≡ true
  pub places : List ℕ
  pub within : (x : ℕ → Parts) (class : Option ℕ) → t.registers k n ≡ Some x → value_holds (x call.on) (Object class) → (c : ℕ) × ((class ≡ Some c) × Contains places c)
  pub finds : (c : ℕ) (u : NamedClass) → Contains places c → slice_get p.classes c ≡ Some u → FindsListed p call.old call.new found u.name
