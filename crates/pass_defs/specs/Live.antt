-- What a program and its rules keep live (ProGuard manual, "Keep Options"; this project's profile): the least sets of
-- classes, made classes, fields and methods with ten rules. A set is a test; a member is live where every closed family
-- of sets has it.
use Rattle.std.specs.Prelude.{◌≡◌, ◌↔◌, ℕ, Bool, true, false, ◌&&◌, ◌||◌, not, List, [], ◌∷◌, ◌++◌, map, Option, Some, None, is_some, Contains}
use Rattle.std.specs.List.{list_any}
use Rattle.insn_set.specs.declared.ops.InvokeKind.{InvokeKind}
use Rattle.insn_set.specs.declared.ops.InvokeKind.TheVariants as call
use Rattle.program_model.specs.declared.program.Program.{Program}
use Rattle.program_model.specs.declared.pass.Outside.{Outside}
use Rattle.dalvik_defs.specs.Names.{Text, text_eq, field_eq, is_common, base_of, constructor_name}
use Rattle.dalvik_defs.specs.Naming.{type_at, field_at}
use Rattle.dalvik_defs.specs.Flags.{is_interface, is_abstract}
use Rattle.dalvik_defs.specs.Under.{class_named, defines, is_outward}
use Rattle.dalvik_defs.specs.Find.{Found, is_virtual_method, defined_method, defined_field, finds_field, resolves_method, is_037}
use Rattle.dalvik_defs.specs.Initialised.{initialiser_of}
use Rattle.dalvik_defs.specs.Face.{bodies_of}
use Rattle.dalvik_defs.specs.Outer.{Outer, methods_in}
use Rattle.dalvik_defs.specs.Silence.{key_in}
use Rattle.dalvik_defs.specs.declared.names.Signature.{Signature}
use Rattle.dalvik_defs.specs.declared.names.MethodKey.{MethodKey}
use Rattle.dalvik_defs.specs.declared.names.FieldKey.{FieldKey}
use Rattle.dalvik_defs.specs.declared.forms.Form.{Form}
use Rattle.dalvik_defs.specs.declared.forms.Form.TheVariants as form
use Rattle.dalvik_defs.specs.declared.program.NamedBody.{NamedBody}
use Rattle.dalvik_defs.specs.declared.program.NamedField.{NamedField}
use Rattle.dalvik_defs.specs.declared.program.NamedMethod.{NamedMethod}
use Rattle.dalvik_defs.specs.declared.program.NamedClass.{NamedClass}
use Rattle.dalvik_defs.specs.declared.program.NamedProgram.{NamedProgram}
use Rattle.pass_defs.specs.Calls.{is_within, inherits, candidates_of, super_candidates, may_find}
use Rattle.pass_defs.specs.Mentions.{Mentions, types_of, types_in_body, fields_in_body, in_class, in_field, in_method}

-- What is kept under a condition: members where their class is live, and classes where another class, the owner, is.
pub record Conditions : Type 0 where
  pub methods : MethodKey → Bool
  pub fields : FieldKey → Bool
  pub classes : Text → Text → Bool

abbrev pub conditions_of : Program → Outside → Conditions
conditions_of p o = record {
  methods = methods_in p o.methods_if;
  fields = λ k. list_any (λ n. field_eq (field_at p n) k) o.fields_if;
  classes = λ t owner. list_any (λ c. text_eq (type_at p c.class) t && text_eq (type_at p c.owner) owner) o.classes_if;
}

-- the table of a program that was closed has none
abbrev pub unconditional : Conditions
unconditional = record { methods = λ k. false; fields = λ k. false; classes = λ t owner. false }

pub record Family : Type 0 where
  pub classes : Text → Bool
  pub made : Text → Bool
  pub fields : FieldKey → Bool
  pub methods : MethodKey → Bool

-- the family that has all
abbrev pub everything : Family
everything = record { classes = λ t. true; made = λ t. true; fields = λ k. true; methods = λ k. true }

-- a class that the rules keep, also where it is kept because its owner is live
abbrev pub is_kept : NamedProgram → Outer → Conditions → Family → Text → Bool
is_kept p o k s t = o.classes t || list_any (λ c. k.classes t c.name && s.classes c.name) p.classes

-- a method that the rules keep, also where it is kept because its class is live
abbrev pub is_kept_method : Outer → Conditions → Family → MethodKey → Bool
is_kept_method o k s m = o.methods m || (k.methods m && s.classes m.class)

abbrev pub is_constructor : MethodKey → Bool
is_constructor m = text_eq m.name constructor_name

-- a program class that can have objects
abbrev pub is_concrete : NamedProgram → Text → Bool
is_concrete p t = elim (class_named p t) [ Some c ↦ not (is_interface c.flags) && not (is_abstract c.flags) | None ↦ false ]

-- the classes of some types, themselves or as bases of arrays, are live where the program defines them
abbrev pub HasTypes : NamedProgram → Family → List Text → Type 0
HasTypes p s ts = (t : Text) → Contains ts t → defines p (base_of t) ≡ true → s.classes (base_of t) ≡ true

abbrev pub HasMethods : Family → List Found → Type 0
HasMethods s gs = (g : Found) → Contains gs g → s.methods g.key ≡ true

-- the fields and methods to which names resolve are live
abbrev pub HasFields : NamedProgram → Family → List FieldKey → Type 0
HasFields p s ks = (k : FieldKey) (f : Text × NamedField) → Contains ks k → finds_field p k ≡ Some f → s.fields (record k { class = f.0 }) ≡ true

abbrev pub HasResolved : NamedProgram → Family → List MethodKey → Type 0
HasResolved p s ks = (k : MethodKey) (g : Found) → Contains ks k → resolves_method p k ≡ Some g → s.methods g.key ≡ true

pub record HasMentions (p : NamedProgram) (s : Family) (m : Mentions) : Type 0 where
  pub types : HasTypes p s m.types
  pub fields : HasFields p s m.fields
  pub methods : HasResolved p s m.methods

-- the code of a live method
abbrev pub HasBody : NamedProgram → Family → MethodKey → NamedBody → Type 0
HasBody p s k b = (s.methods k ≡ true) × (bodies_of p k ≡ Some b)

-- Kept classes and members are live, and conditional members of a live class. The class of a live member is live, and so
-- is one of which a constructor is kept.
pub record KeepsKept (p : NamedProgram) (o : Outer) (k : Conditions) (s : Family) : Type 0 where
  pub classes : (t : Text) → defines p t ≡ true → is_kept p o k s t ≡ true → s.classes t ≡ true
  pub fields : (f : FieldKey) → is_some (defined_field p f) ≡ true → (o.fields f || (k.fields f && s.classes f.class)) ≡ true → s.fields f ≡ true
  pub methods : (m : MethodKey) → is_some (defined_method p m) ≡ true → is_kept_method o k s m ≡ true → s.methods m ≡ true
  pub constructors : (m : MethodKey) → defines p m.class ≡ true → is_constructor m ≡ true → is_kept_method o k s m ≡ true → s.classes m.class ≡ true
  pub field_classes : (f : FieldKey) → s.fields f ≡ true → s.classes f.class ≡ true
  pub method_classes : (m : MethodKey) → s.methods m ≡ true → s.classes m.class ≡ true

-- The superclass, the interfaces and the initialiser of a live class are live; in version 037 also the methods with code
-- of a live interface with an initialiser.
pub record KeepsAbove (p : NamedProgram) (s : Family) : Type 0 where
  pub above : (t : Text) (c : NamedClass) → class_named p t ≡ Some c → s.classes t ≡ true → (u : Text) → Contains (c.superclass ∷ c.interfaces) u → defines p u ≡ true → s.classes u ≡ true
  pub initialisers : (t : Text) (k : MethodKey) → s.classes t ≡ true → initialiser_of p t ≡ Some k → s.methods k ≡ true
  pub defaults : (t : Text) (c : NamedClass) (m : NamedMethod) → is_037 p.version ≡ true → class_named p t ≡ Some c → s.classes t ≡ true → is_interface c.flags ≡ true → is_some (initialiser_of p t) ≡ true → Contains c.methods m → (is_virtual_method m && is_some m.body) ≡ true → s.methods (key_in c m) ≡ true

-- The types in the descriptors of live members, and in live code, its handlers and the members that it names.
pub record KeepsTypes (p : NamedProgram) (s : Family) : Type 0 where
  pub fields : (k : FieldKey) → s.fields k ≡ true → HasTypes p s (k.kind ∷ [])
  pub methods : (k : MethodKey) → s.methods k ≡ true → HasTypes p s (types_of k.signature)
  pub bodies : (k : MethodKey) (b : NamedBody) → HasBody p s k b → HasTypes p s (types_in_body b)

-- What the annotations and first values of live classes and members name.
pub record KeepsMentions (p : NamedProgram) (s : Family) : Type 0 where
  pub classes : (t : Text) (c : NamedClass) → class_named p t ≡ Some c → s.classes t ≡ true → HasMentions p s (in_class c)
  pub fields : (k : FieldKey) (f : NamedField) → defined_field p k ≡ Some f → s.fields k ≡ true → HasMentions p s (in_field f)
  pub methods : (k : MethodKey) (m : NamedMethod) → defined_method p k ≡ Some m → s.methods k ≡ true → HasMentions p s (in_method m)

-- A class that can have objects is made, if it is kept, if the rules keep one of its constructors, by which the framework
-- makes objects too, or if live code makes an object of it.
pub record KeepsMade (p : NamedProgram) (o : Outer) (k : Conditions) (s : Family) : Type 0 where
  pub kept : (t : Text) → is_concrete p t ≡ true → is_kept p o k s t ≡ true → s.made t ≡ true
  pub constructed : (m : MethodKey) → is_concrete p m.class ≡ true → is_constructor m ≡ true → is_kept_method o k s m ≡ true → s.made m.class ≡ true
  pub news : (m : MethodKey) (b : NamedBody) (to : ℕ) (t : Text) → HasBody p s m b → Contains b.forms (form.NewInstance to t) → is_concrete p t ≡ true → s.made t ≡ true

-- The members to which names in live code resolve.
pub record KeepsResolved (p : NamedProgram) (s : Family) : Type 0 where
  pub fields : (m : MethodKey) (b : NamedBody) → HasBody p s m b → HasFields p s (fields_in_body b)
  pub methods : (m : MethodKey) (b : NamedBody) (kind : InvokeKind) (k : MethodKey) (args : List ℕ) → HasBody p s m b → Contains b.forms (form.Invoke kind k args) → HasResolved p s (k ∷ [])

-- whether a call finds by its name alone
abbrev pub is_bound : InvokeKind → Bool
is_bound call.Static = true
is_bound call.Direct = true
is_bound call.Super = true
is_bound kind = false

-- What a static, direct or super call in live code finds; for a super call that names a program interface all candidates.
abbrev pub KeepsBound : NamedProgram → Family → Type 0
KeepsBound p s = (m : MethodKey) (b : NamedBody) (kind : InvokeKind) (k : MethodKey) (args : List ℕ) → HasBody p s m b → Contains b.forms (form.Invoke kind k args) → is_bound kind ≡ true → HasMethods s (may_find p m.class kind k)

-- what an object of a class may be asked for: the method that it finds, or all its candidates
abbrev pub answers_to : NamedProgram → Text → Text → Signature → List Found
answers_to p t n g = elim (inherits p t n g) [ Some f ↦ f ∷ [] | None ↦ candidates_of p t n g ]

-- A virtual or interface call in live code, at each made class under the named one by the program's own lists.
abbrev pub KeepsVirtual : NamedProgram → Family → Type 0
KeepsVirtual p s = (m : MethodKey) (b : NamedBody) (kind : InvokeKind) (k : MethodKey) (args : List ℕ) → HasBody p s m b → Contains b.forms (form.Invoke kind k args) → is_bound kind ≡ false →
    (t : Text) → s.made t ≡ true → is_within p t k.class ≡ true → HasMethods s (answers_to p t k.name k.signature)

-- A kept virtual method, at each made class under its own by the program's own lists: the framework that calls it on an
-- object enters what the object's class finds.
abbrev pub KeepsEntered : NamedProgram → Outer → Conditions → Family → Type 0
KeepsEntered p o k s = (m : MethodKey) (x : NamedMethod) → defined_method p m ≡ Some x → is_virtual_method x ≡ true → is_kept_method o k s m ≡ true →
    (t : Text) → s.made t ≡ true → is_within p t m.class ≡ true → HasMethods s (answers_to p t m.name m.signature)

-- What the framework may call on a made class that has a framework ancestor other than Object, and the methods that every
-- object answers to; methods that are shut stay out.
abbrev pub KeepsCalledBack : NamedProgram → Outer → Family → Type 0
KeepsCalledBack p o s = (t n : Text) (g : Signature) → s.made t ≡ true → (is_outward p t || is_common n g) ≡ true →
    (f : Found) → Contains (answers_to p t n g) f → o.shut f.key ≡ false → s.methods f.key ≡ true

pub record IsClosedFamily (p : NamedProgram) (o : Outer) (k : Conditions) (s : Family) : Type 0 where
  pub kept : KeepsKept p o k s
  pub above : KeepsAbove p s
  pub types : KeepsTypes p s
  pub mentions : KeepsMentions p s
  pub made : KeepsMade p o k s
  pub resolved : KeepsResolved p s
  pub bound : KeepsBound p s
  pub virtual : KeepsVirtual p s
  pub entered : KeepsEntered p o k s
  pub called_back : KeepsCalledBack p o s

abbrev pub IsLiveClass : NamedProgram → Outer → Conditions → Text → Type 0
IsLiveClass p o k t = (s : Family) → IsClosedFamily p o k s → s.classes t ≡ true

abbrev pub IsMade : NamedProgram → Outer → Conditions → Text → Type 0
IsMade p o k t = (s : Family) → IsClosedFamily p o k s → s.made t ≡ true

abbrev pub IsLiveField : NamedProgram → Outer → Conditions → FieldKey → Type 0
IsLiveField p o k f = (s : Family) → IsClosedFamily p o k s → s.fields f ≡ true

abbrev pub IsLiveMethod : NamedProgram → Outer → Conditions → MethodKey → Type 0
IsLiveMethod p o k m = (s : Family) → IsClosedFamily p o k s → s.methods m ≡ true

-- Every closed family has all that this one has. A marking that is closed and in which each mark was made by a rule is so.
pub record IsForced (p : NamedProgram) (o : Outer) (k : Conditions) (s : Family) : Type 0 where
  pub classes : (t : Text) → s.classes t ≡ true → IsLiveClass p o k t
  pub made : (t : Text) → s.made t ≡ true → IsMade p o k t
  pub fields : (f : FieldKey) → s.fields f ≡ true → IsLiveField p o k f
  pub methods : (m : MethodKey) → s.methods m ≡ true → IsLiveMethod p o k m

-- It has exactly what is live.
pub record HasTheLive (p : NamedProgram) (o : Outer) (k : Conditions) (s : Family) : Type 0 where
  pub classes : (t : Text) → (s.classes t ≡ true) ↔ IsLiveClass p o k t
  pub made : (t : Text) → (s.made t ≡ true) ↔ IsMade p o k t
  pub fields : (f : FieldKey) → (s.fields f ≡ true) ↔ IsLiveField p o k f
  pub methods : (m : MethodKey) → (s.methods m ≡ true) ↔ IsLiveMethod p o k m
