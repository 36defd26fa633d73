-- What a name finds (this project's profile: the bytecode page gives no order of resolution).
use Rattle.std.specs.Prelude.{ℕ, zero, suc, Bool, true, false, ◌&&◌, not, List, [], ◌∷◌, ◌++◌, map, filter, length, Option, Some, None, find, is_some, flat_map}
use Rattle.std.specs.List.{list_any}
use Rattle.std.specs.Option.{option_or, option_map}
use Rattle.program_model.specs.declared.program.Version.{Version}
use Rattle.program_model.specs.declared.program.Version.TheVariants.{V035, V037}
use Rattle.dalvik_defs.specs.Names.{Text, text_eq, same_name, is_common}
use Rattle.dalvik_defs.specs.Flags.{is_interface, is_virtual}
use Rattle.dalvik_defs.specs.Under.{class_named, is_own_under}
use Rattle.dalvik_defs.specs.declared.names.Signature.{Signature}
use Rattle.dalvik_defs.specs.declared.names.MethodKey.{MethodKey}
use Rattle.dalvik_defs.specs.declared.names.FieldKey.{FieldKey}
use Rattle.dalvik_defs.specs.declared.program.NamedField.{NamedField}
use Rattle.dalvik_defs.specs.declared.program.NamedMethod.{NamedMethod}
use Rattle.dalvik_defs.specs.declared.program.NamedClass.{NamedClass}
use Rattle.dalvik_defs.specs.declared.program.NamedProgram.{NamedProgram}

-- a method that was found: its name, its flags, and whether it has code
pub record Found : Type 0 where
  pub key : MethodKey
  pub flags : ℕ
  pub coded : Bool

-- what a look-up answers: none, several that clash, or one
pub data Search : Type 0 where
  Nothing : Search
  Clash : Search
  Finds : (found : Found) → Search

abbrev pub found_in : NamedClass → NamedMethod → Found
found_in c m = record { key = record { class = c.name; name = m.name; signature = m.signature }; flags = m.flags; coded = is_some m.body }

-- the method of a name and a signature in a class
abbrev pub method_in : NamedClass → Text → Signature → Option NamedMethod
method_in c n s = find (λ m. same_name m.name m.signature n s) c.methods

abbrev pub found_method : NamedClass → Option NamedMethod → Option Found
found_method c o = option_map (found_in c) o

-- the method that a class itself defines
abbrev pub defined_method : NamedProgram → MethodKey → Option NamedMethod
defined_method p k = elim (class_named p k.class) [ Some c ↦ method_in c k.name k.signature | None ↦ None ]

-- a class and its program superclasses, the class first
abbrev pub chain_from : ℕ → NamedProgram → Text → List NamedClass
chain_from zero p t = []
chain_from (suc n) p t = elim (class_named p t) [ Some c ↦ c ∷ chain_from n p c.superclass | None ↦ [] ]

abbrev pub chain_of : NamedProgram → Text → List NamedClass
chain_of p t = chain_from (length p.classes) p t

-- the first method of a name and a signature along some classes, if it passes the test
abbrev pub passing : (NamedMethod → Bool) → NamedClass → Option NamedMethod → Option Found
passing test c None = None
passing test c (Some m) = elim (test m) [ true ↦ Some (found_in c m) | false ↦ None ]

abbrev pub first_method : (NamedMethod → Bool) → Text → Signature → List NamedClass → Option Found
first_method test n s [] = None
first_method test n s (c ∷ cs) = option_or (passing test c (method_in c n s)) (first_method test n s cs)

abbrev pub search_of : Option Found → Search
search_of None = Nothing
search_of (Some f) = Finds f

-- A static or direct call: the first along the named class and its superclasses.
abbrev pub finds_statically : NamedProgram → MethodKey → Search
finds_statically p k = search_of (first_method (λ m. true) k.name k.signature (chain_of p k.class))

-- ---- the candidates of interfaces

abbrev pub is_virtual_method : NamedMethod → Bool
is_virtual_method m = is_virtual m.flags m.name

abbrev pub own_candidate : Text → Signature → NamedClass → List Found
own_candidate n s c = elim (passing is_virtual_method c (method_in c n s)) [ Some f ↦ f ∷ [] | None ↦ [] ]

-- the program interfaces among some types
abbrev pub interface_named : NamedProgram → Text → Option NamedClass
interface_named p t = elim (class_named p t) [ Some c ↦ elim (is_interface c.flags) [ true ↦ Some c | false ↦ None ] | None ↦ None ]

-- the virtual methods of a name and a signature in program interfaces and in all above them
abbrev pub candidates_from : ℕ → NamedProgram → Text → Signature → List Text → List Found
candidates_from zero p n s ts = []
candidates_from (suc k) p n s ts = flat_map (λ t. elim (interface_named p t) [ Some c ↦ own_candidate n s c ++ candidates_from k p n s c.interfaces | None ↦ [] ]) ts

-- each of them once
abbrev pub without_repeats : List Found → List Found
without_repeats [] = []
without_repeats (f ∷ fs) = f ∷ filter (λ g. not (text_eq g.key.class f.key.class)) (without_repeats fs)

abbrev pub is_037 : Version → Bool
is_037 V035 = false
is_037 V037 = true

abbrev pub candidates : NamedProgram → List Text → Text → Signature → List Found
candidates p ts n s = elim (is_037 p.version && not (is_common n s)) [
  | true ↦ without_repeats (candidates_from (length p.classes) p n s ts)
  | false ↦ []
]

-- no other candidate's interface is under its own
abbrev pub is_lowest : NamedProgram → List Found → Found → Bool
is_lowest p fs f = not (list_any (λ g. not (text_eq g.key.class f.key.class) && is_own_under p g.key.class f.key.class) fs)

abbrev pub lowest : NamedProgram → List Found → List Found
lowest p fs = filter (λ f. f.coded && is_lowest p fs f) fs

-- the candidates give one method, clash, or find none
abbrev pub verdict : List Found → Search
verdict [] = Nothing
verdict (f ∷ []) = Finds f
verdict (f ∷ g ∷ fs) = Clash

abbrev pub finds_among : NamedProgram → List Text → Text → Signature → Search
finds_among p ts n s = verdict (lowest p (candidates p ts n s))

-- A virtual or interface call, at a receiver of a program class: the first virtual method along the class and its
-- superclasses; if there is none, what the candidates of the interfaces of all these classes give.
abbrev pub finds_at : NamedProgram → Text → MethodKey → Search
finds_at p t k = elim (first_method is_virtual_method k.name k.signature (chain_of p t)) [
  | Some f ↦ Finds f
  | None ↦ finds_among p (flat_map (λ c. c.interfaces) (chain_of p t)) k.name k.signature
]

-- ---- resolution

-- program classes among some types, each followed by those above it by interface lists
abbrev pub interfaces_from : ℕ → NamedProgram → List Text → List NamedClass
interfaces_from zero p ts = []
interfaces_from (suc n) p ts = flat_map (λ t. elim (class_named p t) [ Some c ↦ c ∷ interfaces_from n p c.interfaces | None ↦ [] ]) ts

-- A method that an instruction names resolves along the named class and its superclasses, then their interfaces.
abbrev pub resolves_method : NamedProgram → MethodKey → Option Found
resolves_method p k = first_method (λ m. true) k.name k.signature
    (chain_of p k.class ++ interfaces_from (length p.classes) p (flat_map (λ c. c.interfaces) (chain_of p k.class)))

-- ---- super calls

-- whether a type stands in the interface list of a class or of a program class above it
abbrev pub lists_interface : NamedProgram → Text → Text → Bool
lists_interface p class t = list_any (λ c. is_own_under p class c.name && list_any (text_eq t) c.interfaces) p.classes

abbrev pub superclass_of : NamedProgram → Text → Text
superclass_of p t = elim (class_named p t) [ Some c ↦ c.superclass | None ↦ [] ]

abbrev pub finds_above : NamedProgram → Text → MethodKey → Search
finds_above p class k = search_of (first_method (λ m. true) k.name k.signature (chain_of p (superclass_of p class)))

-- In version 037 a super call that names a program interface finds what the candidates of that interface give, and one
-- that names another type of an interface list belongs to the framework. Every other begins at the superclass.
abbrev pub finds_super_037 : NamedProgram → Text → MethodKey → Option NamedClass → Search
finds_super_037 p class k (Some c) = elim (is_interface c.flags) [
  | true ↦ finds_among p (c.name ∷ []) k.name k.signature
  | false ↦ finds_above p class k
]
finds_super_037 p class k None = elim (lists_interface p class k.class) [ true ↦ Nothing | false ↦ finds_above p class k ]

abbrev pub finds_super : NamedProgram → Text → MethodKey → Search
finds_super p class k = elim (is_037 p.version) [
  | true ↦ finds_super_037 p class k (class_named p k.class)
  | false ↦ finds_above p class k
]

-- ---- fields

-- a field that was found: its name by the class that defines it, its flags, and its first value
abbrev pub field_in : NamedClass → Text → Text → Option NamedField
field_in c n k = find (λ f. text_eq f.name n && text_eq f.kind k) c.fields

abbrev pub first_field : List (Option (Text × NamedField)) → Option (Text × NamedField)
first_field [] = None
first_field (o ∷ os) = option_or o (first_field os)

-- the first of a name and a type in the class, then in its interfaces, then in its superclass, each in turn
abbrev pub field_from : ℕ → NamedProgram → FieldKey → Text → Option (Text × NamedField)
field_from zero p k t = None
field_from (suc n) p k t = elim (class_named p t) [
  | Some c ↦ option_or (option_map (λ f. (c.name, f)) (field_in c k.name k.kind)) (first_field (map (field_from n p k) (c.interfaces ++ c.superclass ∷ [])))
  | None ↦ None
]

abbrev pub finds_field : NamedProgram → FieldKey → Option (Text × NamedField)
finds_field p k = field_from (length p.classes) p k k.class

-- the field that a class itself defines
abbrev pub defined_field : NamedProgram → FieldKey → Option NamedField
defined_field p k = elim (class_named p k.class) [ Some c ↦ field_in c k.name k.kind | None ↦ None ]
