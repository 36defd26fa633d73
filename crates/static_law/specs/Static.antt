-- What is asked of the methods that are made static, and the map of names by which they are (this project's profile).
use Rattle.std.specs.Prelude.{◌≡◌, ℕ, suc, Bool, length, true, false, List, [], ◌∷◌, map, Option, Some, None, if◌then◌else◌, is_some, is_ok}
use Rattle.std.specs.List.{list_any}
use Rattle.insn_set.specs.declared.ops.InvokeKind.{InvokeKind}
use Rattle.insn_set.specs.declared.ops.InvokeKind.TheVariants as call
use Rattle.dex_base.specs.Descriptor.{descriptor_of}
use Rattle.dalvik_defs.specs.Names.{Text, text_eq, same_name, is_common}
use Rattle.dalvik_defs.specs.Flags.{is_static, is_interface}
use Rattle.dalvik_defs.specs.Under.{class_named, defines, is_under, is_outward}
use Rattle.dalvik_defs.specs.Find.{Found, Finds, found_in, method_in, defined_method, resolves_method, interface_named, is_virtual_method}
use Rattle.dalvik_defs.specs.Initialised.{is_trivial}
use Rattle.dalvik_defs.specs.Silence.{key_in}
use Rattle.dalvik_defs.specs.Face.{face_of, bodies_of}
use Rattle.dalvik_defs.specs.Outer.{Outer}
use Rattle.dalvik_defs.specs.Legal.{may_reach}
use Rattle.dalvik_defs.specs.declared.tables.Framework.{Framework}
use Rattle.dalvik_defs.specs.declared.names.Signature.{Signature}
use Rattle.dalvik_defs.specs.declared.names.MethodKey.{MethodKey}
use Rattle.dalvik_defs.specs.declared.program.NamedMethod.{NamedMethod}
use Rattle.dalvik_defs.specs.declared.program.NamedClass.{NamedClass}
use Rattle.dalvik_defs.specs.declared.program.NamedProgram.{NamedProgram}
use Rattle.pass_defs.specs.Loose.{new_signature, new_key, static_method, staticised, classes_under, has_rival, concerns, is_subclass, is_plain_call}
use Rattle.pass_defs.specs.Demands.{is_constructor_name}
use Rattle.pass_defs.specs.Kinds.{Kind, is_plain, fits}
use Rattle.pass_defs.specs.Walks.{form_at as form_in}
use Rattle.removal_law.specs.Agree.{Each}
use Rattle.removal_law.specs.Left.{In}
use Rattle.dalvik_defs.specs.declared.forms.Form.TheVariants as form
use Rattle.dalvik_defs.specs.declared.program.NamedBody.{NamedBody}
use Rattle.dalvik_defs.specs.State.{World, Classes, State, On, is_null, kind_of}
use Rattle.dalvik_defs.specs.declared.state.Frame.{Frame}
use Rattle.dalvik_defs.specs.declared.state.Waiting.{Waiting}
use Rattle.dalvik_defs.specs.declared.state.Waiting.TheVariants.{Method}
use Rattle.dalvik_defs.specs.Effect.{register}
use Rattle.dalvik_defs.specs.Stack.{form_at}
use Rattle.dalvik_defs.specs.Quiet.{quiet_within, calm_opening}
use Rattle.dalvik_defs.specs.Step.{step, after, setting_of}
use Rattle.dalvik_defs.specs.declared.script.Move.{Move}
use Rattle.dalvik_defs.specs.declared.tables.Floats.{Floats}
use Rattle.program_laws.specs.Renames.{Edit, searched}
use Rattle.dalvik_defs.specs.Outcome.{takes_no_receiver, receiver}
use Rattle.program_laws.specs.Remade.{Remethod}

-- ---- the map of names

-- the method that has this name instead: the first parameter taken away, where that is a loose method of the class
abbrev pub without_first : MethodKey → List Text → MethodKey
without_first k ts = record k { signature = record k.signature { parameters = ts } }

abbrev pub old_or : (MethodKey → Bool) → MethodKey → List Text → MethodKey
old_or loose k [] = k
old_or loose k (t ∷ ts) = if text_eq t k.class then (if loose (without_first k ts) then without_first k ts else k) else k

-- a loose method gets the new name, and whatever had the new name the old one
abbrev pub renamed : (MethodKey → Bool) → MethodKey → MethodKey
renamed loose k = if loose k then new_key k else old_or loose k k.signature.parameters

-- a call that names a loose method is static
abbrev pub edit_found : (MethodKey → Bool) → InvokeKind → MethodKey → Option Found → InvokeKind × MethodKey
edit_found loose kind k (Some g) = if loose g.key then (call.Static, new_key g.key) else (kind, k)
edit_found loose kind k None = (kind, k)

abbrev pub edit_by : NamedProgram → (MethodKey → Bool) → Edit
edit_by p loose kind k = edit_found loose kind k (resolves_method p k)

-- ---- what is asked

-- a name that no loose method gets
abbrev pub IsOld : (MethodKey → Bool) → Text → Signature → Type 0
IsOld loose n g = (k : MethodKey) → loose k ≡ true → same_name k.name (new_signature k) n g ≡ false

-- a name that no loose method of this class gets
abbrev pub IsOldAt : (MethodKey → Bool) → Text → Text → Signature → Type 0
IsOldAt loose t n g = (k : MethodKey) → k.class ≡ t → loose k ≡ true → same_name k.name (new_signature k) n g ≡ false

-- no method has the new name
abbrev pub Fresh : MethodKey → List NamedMethod → Type 0
Fresh k ms = Each (λ m. same_name m.name m.signature k.name (new_signature k) ≡ false) ms

abbrev pub key : Text → Text → Signature → MethodKey
key t n g = record { class = t; name = n; signature = g }

-- the methods of a class with the loose ones static
abbrev pub made_static : NamedProgram → (MethodKey → Bool) → Remethod
made_static p loose c = map (static_method p loose c) c.methods

pub record IsSound (p : NamedProgram) (loose : MethodKey → Bool) : Type 0 where
  -- no method of an interface is loose
  pub inner : (t : Text) (c : NamedClass) → interface_named p t ≡ Some c → (n : Text) (g : Signature) → loose (key c.name n g) ≡ false
  -- a loose method has a receiver
  pub receiver : (t : Text) (c : NamedClass) (n : Text) (g : Signature) (m : NamedMethod) → class_named p t ≡ Some c → method_in c n g ≡ Some m → loose (key c.name n g) ≡ true → is_static m.flags ≡ false
  -- no method has its new name, and no loose one either
  pub fresh : (k : MethodKey) (t : Text) (c : NamedClass) → loose k ≡ true → class_named p t ≡ Some c → Fresh k c.methods
  pub apart : (k : MethodKey) → loose k ≡ true → IsOld loose k.name k.signature

-- The framework enters no loose method, before and after: it reaches it on no object, and its new name isn't kept. All
-- other methods it reaches alike.
pub record IsUnentered (p : NamedProgram) (o : Outer) (loose : MethodKey → Bool) (f : Framework) : Type 0 where
  pub free : (k : MethodKey) → loose k ≡ true → o.methods k ≡ false
  pub free_new : (k : MethodKey) → loose k ≡ true → o.methods (new_key k) ≡ false
  pub unreached : (t : Text) (g : Found) → loose g.key ≡ true → may_reach (face_of p f) o t g ≡ false
  pub reached : (t u : Text) (c : NamedClass) (m : NamedMethod) → class_named p u ≡ Some c → In m c.methods → loose (key_in c m) ≡ false → is_virtual_method m ≡ true → may_reach (face_of (staticised p loose) f) o t (found_in c m) ≡ may_reach (face_of p f) o t (found_in c m)

-- What stands of a loose method, and that its class is calm.
pub record Stands (p : NamedProgram) (loose : MethodKey → Bool) (calm : Text → Bool) (k : MethodKey) : Type 0 where
  pub class : NamedClass
  pub method : NamedMethod
  pub named : class_named p k.class ≡ Some class
  pub defined : method_in class k.name k.signature ≡ Some method
  pub coded : is_some method.body ≡ true
  pub quiet : calm k.class ≡ true

-- What is known of a call at a state that a run reaches, on an object of a type: it stays and finds no loose method, or
-- it names a loose method, finds it, and its receiver isn't null.
pub data SiteKnown (p : NamedProgram) (loose : MethodKey → Bool) (f : Framework) (class : Text) (kind : InvokeKind) (t : Text) (null : Bool) (k : MethodKey) : Type 0 where
  StaysAsItIs : edit_by p loose kind k ≡ (kind, k) → IsOld loose k.name k.signature → ((g : Found) → searched (face_of p f) class kind t k ≡ Finds g → loose g.key ≡ false) → SiteKnown p loose f class kind t null k
  BecomesStatic : (j : MethodKey) → loose j ≡ true → edit_by p loose kind k ≡ (call.Static, new_key j) → (g : Found) → searched (face_of p f) class kind t k ≡ Finds g → g.key ≡ j → g.coded ≡ true → is_static g.flags ≡ false
      → (takes_no_receiver kind ≡ false → null ≡ false) → SiteKnown p loose f class kind t null k

-- ---- methods that nothing but plain calls reaches

-- a virtual method that no object answers by another name, and that the framework calls on none
pub record IsApart (p : NamedProgram) (k : MethodKey) : Type 0 where
  pub unrivalled : has_rival p k ≡ false
  pub uncommon : is_common k.name k.signature ≡ false
  pub inside : list_any (λ c. is_outward p c.name) (classes_under p k.class) ≡ false

abbrev pub AreApart : NamedProgram → (MethodKey → Bool) → Type 0
AreApart p loose = (k : MethodKey) (c : NamedClass) (m : NamedMethod) → loose k ≡ true → class_named p k.class ≡ Some c → In m c.methods → key_in c m ≡ k → is_virtual_method m ≡ true → IsApart p k

-- a call that passes a receiver
abbrev pub has_receiver : InvokeKind → List ℕ → Bool
has_receiver call.Static args = false
has_receiver kind [] = false
has_receiver kind (r ∷ args) = true

-- A method that may be static, where a program names some methods: each call that concerns it resolves to it through a class or
-- one under that, passes a receiver, and finds it alone, with code.
pub record MayBeStatic (p : NamedProgram) (o : Outer) (methods : List MethodKey) (k : MethodKey) : Type 0 where
  pub class : NamedClass
  pub method : NamedMethod
  pub named : class_named p k.class ≡ Some class
  pub defined : defined_method p k ≡ Some method
  pub coded : is_some method.body ≡ true
  pub receiver : is_static method.flags ≡ false
  pub plain : is_constructor_name k.name ≡ false
  pub free : o.methods k ≡ false
  pub in_class : is_interface class.flags ≡ false
  pub trivial : is_trivial p k.class ≡ true
  pub apart : is_virtual_method method ≡ true → IsApart p k
  pub calls : (caller : MethodKey) (b : NamedBody) (n : ℕ) (kind : InvokeKind) (called : MethodKey) (args : List ℕ) → bodies_of p caller ≡ Some b → form_in b n ≡ Some (form.Invoke kind called args)
      → concerns p k caller.class kind called ≡ true → (has_receiver kind args ≡ true) × (is_plain_call p k caller.class kind called ≡ true)
  pub new : list_any (λ t. same_name t.name t.signature k.name (new_signature k)) methods ≡ false

abbrev pub MayAllBeStatic : NamedProgram → Outer → List MethodKey → (MethodKey → Bool) → Type 0
MayAllBeStatic p o methods loose = (k : MethodKey) → loose k ≡ true → MayBeStatic p o methods k

-- What a program has of its table of methods: its own, those that its calls name, and the kept ones with parameters stand there.
pub record AreInTables (p : NamedProgram) (o : Outer) (methods : List MethodKey) : Type 0 where
  pub defined : (t : Text) (c : NamedClass) (m : NamedMethod) → class_named p t ≡ Some c → In m c.methods → In (key_in c m) methods
  pub called : (caller : MethodKey) (b : NamedBody) (n : ℕ) (kind : InvokeKind) (k : MethodKey) (args : List ℕ) → bodies_of p caller ≡ Some b → form_in b n ≡ Some (form.Invoke kind k args) → In k methods
  pub kept : (k : MethodKey) (t : Text) (ts : List Text) → o.methods k ≡ true → k.signature.parameters ≡ t ∷ ts → In k methods

-- the names of classes are descriptors
abbrev pub NamesDescribed : NamedProgram → Type 0
NamesDescribed p = (t : Text) → defines p t ≡ true → is_ok (descriptor_of t) ≡ true

-- no plain class is the superclass of an interface
abbrev pub FreeInterfaces : NamedProgram → Type 0
FreeInterfaces p = (t : Text) (c : NamedClass) → class_named p t ≡ Some c → is_interface c.flags ≡ true → is_plain p c.superclass ≡ false

-- what fits a class fits the plain classes above it, by superclasses
abbrev pub FitsUpward : NamedProgram → Type 0
FitsUpward p = (s t : Text) (k : Kind) → is_subclass p s t ≡ true → is_plain p t ≡ true → fits p k s ≡ true → fits p k t ≡ true

-- ---- receivers

-- What facts say of the receiver of a call that names a loose method: it isn't null, and of a virtual call it is an object
-- of a class of the program under the named one.
pub record ReceiverKnown (p : NamedProgram) (f : Framework) (kind : InvokeKind) (t : Text) (null : Bool) (k : MethodKey) : Type 0 where
  pub given : takes_no_receiver kind ≡ false → null ≡ false
  pub is_class : kind ≡ call.Virtual → is_some (class_named p t) ≡ true
  pub under : kind ≡ call.Virtual → is_under p f t k.class ≡ true

-- What facts know of the receivers of calls that name a loose method, in states that a run keeps.
pub record ReceiversKnown (p : NamedProgram) (loose : MethodKey → Bool) (o : Outer) (f : Framework) (a : Floats) (script : List Move) (J : State → Type 0) : Type 0 where
  pub start : J (calm_opening (quiet_within (face_of p f) (suc (length p.classes))) script)
  pub keeps : (t : State) → J t → J (step (setting_of p o f a) (bodies_of p) t).0
  pub receivers : (w : World) (c : Classes) (g : Frame) (rest : List Waiting) (s : List Move) (kind : InvokeKind) (k : MethodKey) (args : List ℕ) (h : Found)
      → J (On w c (Method g ∷ rest) s) → form_at (bodies_of p) g ≡ Some (form.Invoke kind k args) → resolves_method p k ≡ Some h → loose h.key ≡ true
      → ReceiverKnown p f kind (kind_of w (receiver (map (register g) args))) (is_null (receiver (map (register g) args))) k

-- The same of all states that a run comes to which begins with the calm classes done.
abbrev pub ReceiversReached : NamedProgram → (MethodKey → Bool) → Outer → Framework → Floats → List Move → Type 0
ReceiversReached p loose o f a script = (n : ℕ) (w : World) (c : Classes) (g : Frame) (rest : List Waiting) (s : List Move) (kind : InvokeKind) (k : MethodKey) (args : List ℕ) (h : Found)
    → after (setting_of p o f a) (bodies_of p) (calm_opening (quiet_within (face_of p f) (suc (length p.classes))) script) n ≡ On w c (Method g ∷ rest) s
    → form_at (bodies_of p) g ≡ Some (form.Invoke kind k args) → resolves_method p k ≡ Some h → loose h.key ≡ true
    → ReceiverKnown p f kind (kind_of w (receiver (map (register g) args))) (is_null (receiver (map (register g) args))) k
