-- What a run of a program comes to, by a family of live sets, and what the law of removal asks of the program.
use Rattle.std.specs.Prelude.{◌≡◌, ℕ, zero, suc, Bool, true, false, ◌&&◌, ◌||◌, not, List, Some, None, is_none, is_ok}
use Rattle.std.specs.List.{list_any, list_all}
use Rattle.dex_base.specs.Descriptor.{descriptor_of}
use Rattle.dalvik_defs.specs.Names.{Text, text_eq, is_class_type, is_common, is_array, base_of, proto_text}
use Rattle.dalvik_defs.specs.Flags.{is_interface}
use Rattle.dalvik_defs.specs.Under.{class_named, defines, own_above, is_own_under, is_outward}
use Rattle.dalvik_defs.specs.Find.{interface_named, is_037}
use Rattle.dalvik_defs.specs.Initialised.{initialiser_of}
use Rattle.dalvik_defs.specs.Face.{face_of, bodies_of}
use Rattle.dalvik_defs.specs.Outer.{Outer, is_constructor_of}
use Rattle.dalvik_defs.specs.declared.names.Signature.{Signature}
use Rattle.dalvik_defs.specs.Shut.{Library, called_outside, finds_it, is_other, key_of, shut}
use Rattle.dalvik_defs.specs.declared.names.MethodKey.{MethodKey}
use Rattle.dalvik_defs.specs.declared.forms.Form.{Form}
use Rattle.dalvik_defs.specs.declared.forms.Form.TheVariants as form
use Rattle.dalvik_defs.specs.declared.tables.Framework.{Framework}
use Rattle.dalvik_defs.specs.declared.program.NamedBody.{NamedBody}
use Rattle.dalvik_defs.specs.declared.program.NamedMethod.{NamedMethod}
use Rattle.dalvik_defs.specs.declared.program.NamedClass.{NamedClass}
use Rattle.dalvik_defs.specs.declared.program.NamedProgram.{NamedProgram}
use Rattle.pass_defs.specs.Walks.{form_at, IsReached}
use Rattle.pass_defs.specs.Live.{Family, HasBody, is_concrete}
use Rattle.removal_law.specs.Left.{In, left_of}
use Rattle.removal_law.specs.Agree.{sieved, Agree}

-- a type whose base is live where the program defines it
abbrev pub OkType : NamedProgram → Family → Text → Type 0
OkType p s t = defines p (base_of t) ≡ true → s.classes (base_of t) ≡ true

-- the form makes an object of a class
abbrev pub is_new : Text → Form → Bool
is_new t (form.NewInstance to u) = text_eq u t
is_new t form = false

-- some code of a program makes an object of a class
abbrev pub makes_new : NamedProgram → Text → Bool
makes_new p t = list_any (λ c. list_any (λ m. elim m.body [ Some b ↦ list_any (is_new t) b.forms | None ↦ false ]) c.methods) p.classes

-- a class that can have objects, and of which the framework or some code of the program makes one
abbrev pub may_be_made : NamedProgram → Outer → Text → Bool
may_be_made p o t = is_concrete p t && (o.classes t || o.constructed t || makes_new p t)

-- a type that is made, and may be, where the program defines it
abbrev pub MadeType : NamedProgram → Outer → Family → Text → Type 0
MadeType p o s t = defines p t ≡ true → (s.made t ≡ true) × (may_be_made p o t ≡ true)

-- a live method of a class of the program
pub record LiveMethod (p : NamedProgram) (s : Family) (k : MethodKey) : Type 0 where
  pub live : s.methods k ≡ true
  pub defined : defines p k.class ≡ true

-- a position that some walk through the code of a method comes to
abbrev pub ReachedAt : NamedProgram → MethodKey → ℕ → Type 0
ReachedAt p k n = (b : NamedBody) → bodies_of p k ≡ Some b → IsReached b n

-- a form of a live method, at such a position
pub record Says (p : NamedProgram) (s : Family) (k : MethodKey) (f : Form) : Type 0 where
  pub body : NamedBody
  pub has : HasBody p s k body
  pub defined : defines p k.class ≡ true
  pub place : ℕ
  pub reached : IsReached body place
  pub at_place : form_at body place ≡ Some f
  pub stands : In f body.forms

-- an interface without an initialiser, so that its initialisation does nothing
abbrev pub is_idle : NamedProgram → Text → Bool
is_idle p t = elim (interface_named p t) [ Some c ↦ is_none (initialiser_of p t) | None ↦ false ]

-- Under a framework, all that a run asks of a program what is left of it answers alike, where of the classes that are
-- initialised before one the idle interfaces don't count.
abbrev pub LeftAgrees : NamedProgram → Outer → Family → Framework → Type 0
LeftAgrees p o s f = Agree (OkType p s) (MadeType p o s) (LiveMethod p s) (Says p s) (ReachedAt p) (is_idle p) p o (face_of p f) (sieved (is_idle p) (face_of (left_of s p) f)) (bodies_of p) (bodies_of (left_of s p))

-- ---- what is asked of the program

-- whether the walk upwards from a type ends within so many steps
abbrev pub ends : NamedProgram → ℕ → Text → Bool
ends p zero t = not (defines p t)
ends p (suc n) t = list_all (ends p n) (own_above p t)

-- Classes have class names, and none is its own ancestor.
pub record IsRegular (p : NamedProgram) : Type 0 where
  pub names : (t : Text) → defines p t ≡ true → is_class_type t ≡ true
  pub grounded : (t : Text) → (n : ℕ) × (ends p n t ≡ true)

-- No class has two methods with one name and one text of their protos.
abbrev pub TellsApart : NamedProgram → Type 0
TellsApart p = (t : Text) (c : NamedClass) (m x : NamedMethod) → class_named p t ≡ Some c → In m c.methods → In x c.methods → m.name ≡ x.name
    → proto_text m.signature ≡ proto_text x.signature → m ≡ x

-- Protos of methods are told apart by their texts.
abbrev pub TellsProtos : NamedProgram → Type 0
TellsProtos p = (t u : Text) (c d : NamedClass) (m x : NamedMethod) → class_named p t ≡ Some c → class_named p u ≡ Some d → In m c.methods → In x d.methods
    → proto_text m.signature ≡ proto_text x.signature → m.signature ≡ x.signature

-- Where a walk comes, new arrays are of array types and new objects of classes that can have some; and methods and protos
-- are told apart.
pub record IsSoundCode (p : NamedProgram) : Type 0 where
  pub arrays : (k : MethodKey) (b : NamedBody) (n to size : ℕ) (t : Text) → bodies_of p k ≡ Some b → IsReached b n → form_at b n ≡ Some (form.NewArray to size t) → is_array t ≡ true
  pub filled : (k : MethodKey) (b : NamedBody) (n : ℕ) (t : Text) (args : List ℕ) → bodies_of p k ≡ Some b → IsReached b n → form_at b n ≡ Some (form.FilledNewArray t args) → is_array t ≡ true
  pub objects : (k : MethodKey) (b : NamedBody) (n to : ℕ) (t : Text) → bodies_of p k ≡ Some b → IsReached b n → form_at b n ≡ Some (form.NewInstance to t) → defines p t ≡ true → is_concrete p t ≡ true
  pub methods : TellsApart p
  pub protos : TellsProtos p

-- What a table of shut methods owes: no call names one on the framework, and in version 037 none is of an interface. Where a
-- class that may be made finds one, and its objects might be called back by that name (it has a framework ancestor, or every
-- object answers to the name), every other method of the name with code above the class is kept or shut.
pub record ShutsHold (p : NamedProgram) (o : Outer) : Type 0 where
  pub uncalled : (k : MethodKey) → o.shut k ≡ true → called_outside p k.name k.signature ≡ false
  pub others : (k : MethodKey) (m : NamedMethod) (d e : NamedClass) (x : NamedMethod) → o.shut k ≡ true → m.name ≡ k.name → m.signature ≡ k.signature → In d p.classes → finds_it p k d ≡ true
      → may_be_made p o d.name ≡ true → (is_outward p d.name || is_common k.name k.signature) ≡ true → In e p.classes → is_own_under p d.name e.name ≡ true → In x e.methods
      → is_other k.class m e x ≡ true → (o.methods (key_of e x) || o.shut (key_of e x)) ≡ true
  pub plain : (k : MethodKey) (c : NamedClass) → is_037 p.version ≡ true → o.shut k ≡ true → class_named p k.class ≡ Some c → is_interface c.flags ≡ false

-- The parts of a table agree: a class of which a constructor is kept has one among the kept methods, and the classes of the
-- kept methods of a name and signature have such ones.
pub record AgreesInside (o : Outer) : Type 0 where
  pub constructed : (t : Text) → o.constructed t ≡ true → (k : MethodKey) × ((o.methods k ≡ true) × (is_constructor_of t k ≡ true))
  pub keepers : (t n : Text) (g : Signature) → In t (o.keepers n g) → o.methods (record { class = t; name = n; signature = g }) ≡ true

-- What a table of what the framework may reach owes.
pub record IsSoundTable (p : NamedProgram) (o : Outer) : Type 0 where
  pub inside : AgreesInside o
  pub shuts : ShutsHold p o

-- The shut methods of a table are those that the definition of shut methods gives for a library.
pub record IsNarrowed (p : NamedProgram) (o : Outer) (l : Library) : Type 0 where
  pub only : (k : MethodKey) → o.shut k ≡ true → (c : NamedClass) × ((m : NamedMethod) × ((class_named p c.name ≡ Some c) × ((key_of c m ≡ k) × (shut p o l c m ≡ true))))
  pub all : (c : NamedClass) (m : NamedMethod) → In c p.classes → In m c.methods → shut p o l c m ≡ true → o.shut (key_of c m) ≡ true

-- no type stands above itself by the program's own lists
abbrev pub IsAcyclic : NamedProgram → Type 0
IsAcyclic p = (t u : Text) → In u (own_above p t) → is_own_under p u t ≡ true → ⊥

-- the parameters of methods are descriptors
abbrev pub IsDescribed : NamedProgram → Type 0
IsDescribed p = (t : Text) (c : NamedClass) (m : NamedMethod) (u : Text) → class_named p t ≡ Some c → In m c.methods → In u m.signature.parameters → is_ok (descriptor_of u) ≡ true

-- no class defines two methods of one name and signature
abbrev pub DefinesOnce : NamedProgram → Type 0
DefinesOnce p = (t : Text) (c : NamedClass) (m x : NamedMethod) → class_named p t ≡ Some c → In m c.methods → In x c.methods → m.name ≡ x.name → m.signature ≡ x.signature → m ≡ x

-- no two classes have one name
abbrev pub NamesOnce : NamedProgram → Type 0
NamesOnce p = (c : NamedClass) → In c p.classes → class_named p c.name ≡ Some c
