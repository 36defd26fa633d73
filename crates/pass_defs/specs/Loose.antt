-- Methods that don't need their receiver, and the program in which they are static (Dalvik executable format, "access_flags
-- Definitions"; this project's profile).
use Rattle.std.specs.Prelude.{◌≡◌, ℕ, ◌+◌, ◌<◌, ◌⊎◌, Bool, true, false, ◌&&◌, ◌||◌, not, if◌then◌else◌, List, [], ◌∷◌, ◌++◌, map, filter, flat_map, length, Option, Some, None, is_some}
use Rattle.std.specs.List.{list_any, list_all}
use Rattle.std.specs.Option.{option_map}
use Rattle.insn_set.specs.declared.ops.InvokeKind.{InvokeKind}
use Rattle.insn_set.specs.declared.ops.InvokeKind.TheVariants as call
use Rattle.program_model.specs.declared.program.Program.{Program}
use Rattle.dalvik_defs.specs.Names.{Text, text_eq, signature_eq, method_eq, same_name, is_common, is_reference}
use Rattle.dalvik_defs.specs.Naming.{named}
use Rattle.dalvik_defs.specs.Flags.{is_static, is_interface}
use Rattle.dalvik_defs.specs.Under.{class_named, is_own_under, is_outward}
use Rattle.dalvik_defs.specs.Find.{Found, method_in, defined_method, resolves_method, chain_of, is_virtual_method}
use Rattle.dalvik_defs.specs.Initialised.{is_trivial}
use Rattle.dalvik_defs.specs.Face.{bodies_of}
use Rattle.dalvik_defs.specs.Outer.{Outer}
use Rattle.dalvik_defs.specs.Silence.{key_in}
use Rattle.dalvik_defs.specs.declared.names.Signature.{Signature}
use Rattle.dalvik_defs.specs.declared.names.MethodKey.{MethodKey}
use Rattle.dalvik_defs.specs.declared.forms.Form.{Form}
use Rattle.dalvik_defs.specs.declared.forms.Form.TheVariants as form
use Rattle.dalvik_defs.specs.declared.encoded.NamedMark.{NamedMark}
use Rattle.dalvik_defs.specs.declared.program.NamedBody.{NamedBody}
use Rattle.dalvik_defs.specs.declared.program.NamedMethod.{NamedMethod}
use Rattle.dalvik_defs.specs.declared.program.NamedClass.{NamedClass}
use Rattle.dalvik_defs.specs.declared.program.NamedProgram.{NamedProgram}
use Rattle.pass_defs.specs.Calls.{may_find}
use Rattle.pass_defs.specs.Leaves.{may_leave}
use Rattle.pass_defs.specs.Numbered.{Tables, tables_of}
use Rattle.pass_defs.specs.Demands.{is_constructor_name}
use Rattle.pass_defs.specs.Mentions.{Mentions, all_of, in_class, in_field, in_method}
use Rattle.pass_defs.specs.Walks.{form_at}

-- ---- the new method

-- the signature with the class in front
abbrev pub new_signature : MethodKey → Signature
new_signature k = record k.signature { parameters = k.class ∷ k.signature.parameters }

abbrev pub new_key : MethodKey → MethodKey
new_key k = record k { signature = new_signature k }

-- one letter for the result and for each parameter
abbrev pub letter : Text → Text
letter [] = []
letter (u ∷ us) = (if is_reference (u ∷ us) then 76 else u) ∷ []

abbrev pub shorty : Signature → Text
shorty s = letter s.result ++ flat_map letter s.parameters

abbrev pub new_parameter_marks : List (List NamedMark) → List (List NamedMark)
new_parameter_marks [] = []
new_parameter_marks (ms ∷ mss) = [] ∷ ms ∷ mss

abbrev pub loosened : MethodKey → NamedMethod → NamedMethod
loosened k m = record m { signature = new_signature k; flags = m.flags + 8; parameter_marks = new_parameter_marks m.parameter_marks }

-- ---- what may reach a method

abbrev pub has_virtual : MethodKey → NamedClass → Bool
has_virtual k c = elim (method_in c k.name k.signature) [ Some m ↦ is_virtual_method m | None ↦ false ]

abbrev pub classes_under : NamedProgram → Text → List NamedClass
classes_under p t = filter (λ c. is_own_under p c.name t) p.classes

-- Another class above one under the method's class has a virtual method of its name and signature: it overrides the method or is
-- overridden by it, or it stands in an interface list, also where it is no interface.
abbrev pub has_rival : NamedProgram → MethodKey → Bool
has_rival p k = list_any (λ c. list_any (λ u. not (text_eq u.name k.class) && is_own_under p c.name u.name && has_virtual k u) p.classes) (classes_under p k.class)

-- an interface above a class under the method's class has its name and signature
abbrev pub is_in_interface : NamedProgram → MethodKey → Bool
is_in_interface p k = list_any (λ c. list_any (λ i. is_interface i.flags && is_own_under p c.name i.name && is_some (method_in i k.name k.signature)) p.classes) (classes_under p k.class)

-- nothing but calls of the class itself reaches a virtual method
abbrev pub is_alone : NamedProgram → MethodKey → Bool
is_alone p k = not (has_rival p k) && not (is_common k.name k.signature) && not (is_in_interface p k) && not (list_any (λ c. is_outward p c.name) (classes_under p k.class))

abbrev pub names_it : NamedProgram → MethodKey → MethodKey → Bool
names_it p k called = elim (resolves_method p called) [ Some g ↦ method_eq g.key k | None ↦ method_eq called k ]

-- a call that names a method or may find it
abbrev pub concerns : NamedProgram → MethodKey → Text → InvokeKind → MethodKey → Bool
concerns p k class kind called = names_it p k called || list_any (λ g. method_eq g.key k) (may_find p class kind called)

-- the name resolves to it: only such calls are rewritten
abbrev pub resolves_to : NamedProgram → MethodKey → MethodKey → Bool
resolves_to p k called = elim (resolves_method p called) [ Some g ↦ method_eq g.key k | None ↦ false ]

-- a class, or one of its superclasses
abbrev pub is_subclass : NamedProgram → Text → Text → Bool
is_subclass p s t = list_any (λ c. text_eq c.name t) (chain_of p s)

-- it names it through its class or one under that, and finds it alone
abbrev pub is_plain_call : NamedProgram → MethodKey → Text → InvokeKind → MethodKey → Bool
is_plain_call p k class kind called =
    resolves_to p k called && is_subclass p called.class k.class
    && not (may_leave p class kind called) && list_all (λ g. method_eq g.key k) (may_find p class kind called)

-- A receiver that is known as not null. A static call has none, nor has one that passes nothing.
abbrev pub HasReceiver : (MethodKey → ℕ → ℕ → Type 0) → MethodKey → ℕ → InvokeKind → List ℕ → Type 0
HasReceiver not_null caller n call.Static args = ⊥
HasReceiver not_null caller n kind [] = ⊥
HasReceiver not_null caller n kind (r ∷ args) = not_null caller n r

-- every call that concerns a method
pub record KnowsCalls (p : NamedProgram) (admitted : MethodKey → Bool) (not_null : MethodKey → ℕ → ℕ → Type 0) (k : MethodKey) : Type 0 where
  pub calls : (caller : MethodKey) (b : NamedBody) (n : ℕ) (kind : InvokeKind) (called : MethodKey) (args : List ℕ) → bodies_of p caller ≡ Some b → form_at b n ≡ Some (form.Invoke kind called args) → concerns p k caller.class kind called ≡ true →
      ((admitted caller && is_plain_call p k caller.class kind called) ≡ true) × HasReceiver not_null caller n kind args

abbrev pub mentions : NamedProgram → Mentions
mentions p = all_of (flat_map (λ c. in_class c ∷ map in_field c.fields ++ map in_method c.methods) p.classes)

abbrev pub is_in : List Text → Text → Bool
is_in ts t = list_any (text_eq t) ts

-- ---- the program in which loose methods are static

abbrev pub called_statically : NamedProgram → (MethodKey → Bool) → Option Found → Form → Form
called_statically p loose (Some g) (form.Invoke kind k args) = if loose g.key then form.Invoke call.Static (new_key g.key) args else form.Invoke kind k args
called_statically p loose g f = f

abbrev pub resolved : NamedProgram → Form → Option Found
resolved p (form.Invoke kind k args) = resolves_method p k
resolved p f = None

abbrev pub static_body : NamedProgram → (MethodKey → Bool) → NamedBody → NamedBody
static_body p loose b = record b { forms = map (λ f. called_statically p loose (resolved p f) f) b.forms }

abbrev pub static_method : NamedProgram → (MethodKey → Bool) → NamedClass → NamedMethod → NamedMethod
static_method p loose c m =
    let n : NamedMethod = record m { body = option_map (static_body p loose) m.body } in
    if loose (key_in c m) then loosened (key_in c m) n else n

abbrev pub static_class : NamedProgram → (MethodKey → Bool) → NamedClass → NamedClass
static_class p loose c = record c { methods = map (static_method p loose c) c.methods }

-- The loose methods are static, under a signature with their class in front, and so are their calls. Methods keep their
-- place here; the writer orders them.
abbrev pub staticised : NamedProgram → (MethodKey → Bool) → NamedProgram
staticised p loose = record p { classes = map (static_class p loose) p.classes }

-- the methods of a program in class and method order
abbrev pub methods_of : NamedProgram → List MethodKey
methods_of p = flat_map (λ c. map (key_in c) c.methods) p.classes

-- ---- which methods are loose

-- The program by number with the entries that are appended for the methods that are made static.
pub record IsStaticised (base : Program) (p : NamedProgram) (tables : Tables) (loose : MethodKey → Bool) (x : Program) : Type 0 where
  pub names : named x ≡ staticised p loose
  pub strings : x.strings ≡ tables.strings
  pub types : x.types ≡ base.types
  pub signatures : (tables_of x).signatures ≡ tables.signatures
  pub fields : x.fields ≡ base.fields
  pub methods : (tables_of x).methods ≡ map (λ k. if loose k then new_key k else k) tables.methods

-- The tables with what a method that is made static needs: its new signature, and that one's short form.
abbrev pub with_new : Tables → MethodKey → Tables
with_new t k = record t {
  strings = if is_in t.strings (shorty (new_signature k)) then t.strings else t.strings ++ shorty (new_signature k) ∷ [];
  signatures = if list_any (signature_eq (new_signature k)) t.signatures then t.signatures else t.signatures ++ new_signature k ∷ [];
}

-- one method more
abbrev pub or_this : (MethodKey → Bool) → MethodKey → MethodKey → Bool
or_this earlier k g = earlier g || method_eq g k

-- `base` gives the numbers of the program, and `fits` the limits.
module _ (base : Program) (p : NamedProgram) (o : Outer) (optimise : Bool) (fits : Program → Type 0) (admitted : MethodKey → Bool) (not_null : MethodKey → ℕ → ℕ → Type 0) where
  -- The limits hold with this method and the earlier ones made static.
  pub record HasLimits (tables : Tables) (earlier : MethodKey → Bool) (k : MethodKey) : Type 0 where
    pub program : Program
    pub staticised : IsStaticised base p (with_new tables k) (or_this earlier k) program
    pub fitting : fits program

  -- A method is judged behind the `earlier` loose ones, whose new entries `tables` has.
  pub record IsLoose (tables : Tables) (earlier : MethodKey → Bool) (k : MethodKey) : Type 0 where
    pub class : NamedClass
    pub method : NamedMethod
    pub named : class_named p k.class ≡ Some class
    pub defined : defined_method p k ≡ Some method
    pub coded : is_some method.body ≡ true
    pub receiver : is_static method.flags ≡ false
    pub plain : is_constructor_name k.name ≡ false
    pub free : o.methods k ≡ false
    pub in_class : is_interface class.flags ≡ false
    pub trivial : is_trivial p k.class ≡ true
    pub alone : is_virtual_method method ≡ true → is_alone p k ≡ true
    pub calls : KnowsCalls p admitted not_null k
    pub unnamed : list_any (names_it p k) (mentions p).methods ≡ false
    pub new : list_any (λ t. same_name t.name t.signature k.name (new_signature k)) tables.methods ≡ false
    pub room_for_shorty : (is_in tables.strings (shorty (new_signature k)) ≡ true) ⊎ (length tables.strings < 65536)
    pub room_for_proto : (list_any (signature_eq (new_signature k)) tables.signatures ≡ true) ⊎ (length tables.signatures < 65535)
    pub limits : HasLimits tables earlier k
    pub optimises : optimise ≡ true

  -- methods one after another: each that is made static is loose behind those before it
  abbrev pub AreLooseFrom : Tables → (MethodKey → Bool) → (MethodKey → Bool) → List MethodKey → Type 0
  AreLooseFrom tables earlier loose [] = Unit {0}
  AreLooseFrom tables earlier loose (k ∷ ks) = elim (loose k) [
    | true ↦ IsLoose tables earlier k × AreLooseFrom (with_new tables k) (or_this earlier k) loose ks
    | false ↦ AreLooseFrom tables earlier loose ks
  ]

  -- The methods that are made static, judged in class and method order, are all of the program.
  pub record AreLoose (loose : MethodKey → Bool) : Type 0 where
    pub judged : AreLooseFrom (tables_of base) (λ g. false) loose (methods_of p)
    pub others : (k : MethodKey) → list_any (method_eq k) (methods_of p) ≡ false → loose k ≡ false

  -- none is left
  abbrev pub IsNoneLoose : Type 0
  IsNoneLoose = (k : MethodKey) → IsLoose (tables_of base) (λ g. false) k → ⊥
