-- Which classes are initialised before a class, and by what (this project's profile).
use Rattle.std.specs.Prelude.{ℕ, zero, suc, Bool, true, false, ◌&&◌, not, List, [], ◌∷◌, ◌++◌, length, Option, Some, None, is_some, filter, flat_map}
use Rattle.std.specs.List.{list_any, list_all}
use Rattle.dalvik_defs.specs.Names.{Text, text_eq, void, initialiser_name}
use Rattle.dalvik_defs.specs.Flags.{is_static, is_interface}
use Rattle.dalvik_defs.specs.Under.{class_named, defines}
use Rattle.dalvik_defs.specs.Find.{method_in, is_virtual_method, interface_named, is_037, chain_of}
use Rattle.dalvik_defs.specs.declared.names.MethodKey.{MethodKey}
use Rattle.dalvik_defs.specs.declared.program.NamedMethod.{NamedMethod}
use Rattle.dalvik_defs.specs.declared.program.NamedClass.{NamedClass}
use Rattle.dalvik_defs.specs.declared.program.NamedProgram.{NamedProgram}

abbrev pub initialiser_key : Text → MethodKey
initialiser_key t = record { class = t; name = initialiser_name; signature = void }

abbrev pub is_initialiser : NamedMethod → Bool
is_initialiser m = is_static m.flags && is_some m.body

-- the initialiser of a class: its static method with code of that name, without parameters and result
abbrev pub initialiser_in : NamedClass → Option MethodKey
initialiser_in c = elim (method_in c initialiser_name void) [
  | Some m ↦ elim (is_initialiser m) [ true ↦ Some (initialiser_key c.name) | false ↦ None ]
  | None ↦ None
]

abbrev pub initialiser_of : NamedProgram → Text → Option MethodKey
initialiser_of p t = elim (class_named p t) [ Some c ↦ initialiser_in c | None ↦ None ]

-- a virtual method with code
abbrev pub has_default : NamedClass → Bool
has_default c = list_any (λ m. is_virtual_method m && is_some m.body) c.methods

abbrev pub only_if : Bool → Text → List Text
only_if true t = t ∷ []
only_if false t = []

-- the program interfaces with such a method above some types, each behind those above it
abbrev pub interfaces_before : ℕ → NamedProgram → List Text → List Text
interfaces_before zero p ts = []
interfaces_before (suc n) p ts = flat_map (λ t. elim (interface_named p t) [ Some c ↦ interfaces_before n p c.interfaces ++ only_if (has_default c) t | None ↦ [] ]) ts

-- each of them once: where it comes again it is running or done
abbrev pub firsts : List Text → List Text
firsts [] = []
firsts (t ∷ ts) = t ∷ filter (λ u. not (text_eq u t)) (firsts ts)

abbrev pub interfaces_first : NamedProgram → NamedClass → List Text
interfaces_first p c = elim (is_037 p.version) [ true ↦ firsts (interfaces_before (length p.classes) p c.interfaces) | false ↦ [] ]

-- The program superclass comes first, then in version 037 these interfaces. An interface initialises nothing above it.
abbrev pub first_of_class : NamedProgram → NamedClass → List Text
first_of_class p c = elim (is_interface c.flags) [
  | true ↦ []
  | false ↦ only_if (defines p c.superclass) c.superclass ++ interfaces_first p c
]

abbrev pub initialised_first : NamedProgram → Text → List Text
initialised_first p t = elim (class_named p t) [ Some c ↦ first_of_class p c | None ↦ [] ]

-- A class is trivially initialised where it, its program superclasses and all program interfaces above any of these
-- have no initialiser.
abbrev pub has_initialiser : NamedProgram → Text → Bool
has_initialiser p t = is_some (initialiser_of p t)

abbrev pub interfaces_quiet : ℕ → NamedProgram → List Text → Bool
interfaces_quiet zero p ts = true
interfaces_quiet (suc n) p ts = list_all (λ t. elim (class_named p t) [ Some c ↦ not (has_initialiser p t) && interfaces_quiet n p c.interfaces | None ↦ true ]) ts

abbrev pub is_trivial : NamedProgram → Text → Bool
is_trivial p t = list_all (λ c. not (has_initialiser p c.name) && interfaces_quiet (length p.classes) p c.interfaces) (chain_of p t)
